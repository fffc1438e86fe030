use Rattle.core_loop.specs.Turns.MayFail.{takes}
use Rattle.core_loop.proofs.Windows.{ends-may_fail}
use Rattle.core_loop.proofs.one_core.Core.turn.Goals as goal

pub returns-in-NoMemory-clause-may_fail : goal.returns-in-NoMemory-clause-may_fail
returns-in-NoMemory-clause-may_fail g c = λ answer.
    (let taken = c.in-NoMemory.ensures.comes.1 in takes taken.0 taken.1 taken.2)

pub returns-in-Complete-clause-may_fail : goal.returns-in-Complete-clause-may_fail
returns-in-Complete-clause-may_fail g c =
    ends-may_fail c.args.self.now c.trade.new.self c.go_on.new.self c.trade.ensures.rises c.in-Complete.ensures.comes.1 c.go_on.result
    c.go_on.ensures.comes
