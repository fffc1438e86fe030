use Rattle.std.proofs.Common.{◌≡◌, ◌∷◌, length, inl, refl, sym, ap, ◌∙◌, subst, arith}
use Rattle.mn_base.specs.Among.{Among}
use Rattle.migrate.proofs.Parting.{parting-none, parting-among, parting-end, parting-alone, parting-go, parting-stay}
use Rattle.migrate.proofs.moving.part.Goals as goal

pub loop-due-init : goal.loop-due-init
loop-due-init c =
    parting-none c.args.setup.now c.args.pipe c.args.all.now c.new-going.result.items c.args.staying.now c.new-going.ensures.items
    c.requires.empty

pub is_to-requires : goal.is_to-requires
is_to-requires c =
    c.requires.routed c.in-Some.due
    (parting-among c.loop-due.invariant c.in-Some.due (subst (Among c.in-Some.due) (sym c.in-Some.ensures.first) (inl refl)))

pub loop-due-smaller-in-Continue-1 : goal.loop-due-smaller-in-Continue-1
loop-due-smaller-in-Continue-1 c =
    let n : length c.loop-due.all ≡ length (c.in-Some.due ∷ c.pop.new.self) = ap length c.in-Some.ensures.first in
    omega (arith, n)

pub loop-due-preserved-in-Continue-1 : goal.loop-due-preserved-in-Continue-1
loop-due-preserved-in-Continue-1 c =
    parting-go c.loop-due.invariant c.in-Some.ensures.first c.in-Some.ensures.canonical (sym c.is_to.ensures ∙ c.if-is_to.true)
    c.in-Some.ensures.tick c.in_ok-push.ensures.items

pub insert-requires-clause-alone : goal.insert-requires-clause-alone
insert-requires-clause-alone c =
    parting-alone c.loop-due.invariant c.in-Some.ensures.first c.in-Some.ensures.canonical

pub loop-due-smaller : goal.loop-due-smaller
loop-due-smaller c =
    let n : length c.loop-due.all ≡ length (c.in-Some.due ∷ c.pop.new.self) = ap length c.in-Some.ensures.first in
    omega (arith, n)

pub loop-due-preserved : goal.loop-due-preserved
loop-due-preserved c =
    parting-stay c.loop-due.invariant c.in-Some.ensures.first c.in-Some.ensures.canonical (sym c.is_to.ensures ∙ c.if-is_to.false)
    c.in_ok-insert.ensures.canonical c.in_ok-insert.ensures.members

pub returns : goal.returns
returns c = parting-end c.loop-due.invariant c.in_default.ensures.first.0
