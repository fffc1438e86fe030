use Rattle.std.proofs.Common.{Err, rules}
use Rattle.gml_reader.proofs.OneAnswer.{gives_topology, gives_fault}
use Rattle.gml_reader.proofs.reader.read_gml.Goals as goal

pub returns-in-Err-clause-only_topology : goal.returns-in-Err-clause-only_topology
returns-in-Err-clause-only_topology c topology = gives_topology c.args.text.now (Err c.map_fault.result) topology tt (search rules)

pub returns-in-Err-clause-only_fault : goal.returns-in-Err-clause-only_fault
returns-in-Err-clause-only_fault c fault = gives_fault c.args.text.now (Err c.map_fault.result) fault tt (search rules)

pub returns-clause-only_topology : goal.returns-clause-only_topology
returns-clause-only_topology c topology =
    gives_topology c.args.text.now c.read_tokens.result topology c.read_tokens.ensures.read c.read_tokens.ensures.fault

pub returns-clause-only_fault : goal.returns-clause-only_fault
returns-clause-only_fault c fault =
    gives_fault c.args.text.now c.read_tokens.result fault c.read_tokens.ensures.read c.read_tokens.ensures.fault
