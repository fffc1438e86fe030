use Rattle.std.proofs.Common.{◌≡◌, ◌∙◌, Err, codes, ap, rules}
use Rattle.mn_edge.specs.declared.role.Role.TheVariants.{Topology, Screen}
use Rattle.mn_words.specs.Order.{AssignView}
use Rattle.modelnet.specs.Roles.{input, output}
use Rattle.modelnet.specs.TheCommands.{assign_command}
use Rattle.modelnet.proofs.OneToOne.{input_stops, input_refused, output_stops, one_done}
use Rattle.modelnet.proofs.AssignSteps.{assign_is_one}
use Rattle.modelnet.proofs.assign_command.assign.Goals as goal

pub returns-in_err-topology : goal.returns-in_err-topology
returns-in_err-topology g c =
    let is : c.from_residual.result ≡ Err c.in_err-topology.field-0.0 = search rules in
    let order = c.args.order.now in
    let limits = c.args.limits.now in
    rw is (input_stops (assign_command limits order) (input Topology order.topology limits.topology) (output Screen (codes "-"))
    c.as_str-name.result.now c.in_err-topology.field-0.0 (g.H.Host.part c.args.host.now) (g.H.Host.part c.read_input.new.host)
    (assign_is_one limits order) (c.as_str-name.ensures.lent ∙ ap (λ (o : AssignView). o.topology) c.order.view_is)
    c.in_err-topology.ensures.own c.in_err-topology.ensures.others)

pub returns-in_err-text : goal.returns-in_err-text
returns-in_err-text g c =
    let is : c.from_residual-in_err-text.result ≡ Err c.in_err-text.field-0.0 = search rules in
    let order = c.args.order.now in
    let limits = c.args.limits.now in
    rw is (input_refused (assign_command limits order) (input Topology order.topology limits.topology) (output Screen (codes "-"))
    c.in_ok-topology.topology c.in_err-text.field-0.0 (g.H.Host.part c.args.host.now) (g.H.Host.part c.read_input.new.host)
    (assign_is_one limits order)
    (record {
      name = c.as_str-name.result.now;
      named = c.as_str-name.ensures.lent ∙ ap (λ (o : AssignView). o.topology) c.order.view_is;
      own = c.in_ok-topology.ensures.own;
      others = c.in_ok-topology.ensures.others;
    })
    c.in_err-text.ensures.refusal)

pub returns-in_err-write_output : goal.returns-in_err-write_output
returns-in_err-write_output g c =
    let is : c.from_residual-in_err-write_output.result ≡ Err c.in_err-write_output.field-0.0 = search rules in
    let order = c.args.order.now in
    let limits = c.args.limits.now in
    rw is (output_stops (assign_command limits order) (input Topology order.topology limits.topology) (output Screen (codes "-"))
    c.in_ok-topology.topology c.in_ok-text.text c.as_slice.result.now c.in_err-write_output.field-0.0
    (g.H.Host.part c.args.host.now) (g.H.Host.part c.read_input.new.host) (g.H.Host.part c.write_output.new.host)
    (assign_is_one limits order)
    (record {
      name = c.as_str-name.result.now;
      named = c.as_str-name.ensures.lent ∙ ap (λ (o : AssignView). o.topology) c.order.view_is;
      own = c.in_ok-topology.ensures.own;
      others = c.in_ok-topology.ensures.others;
    })
    c.in_ok-text.ensures.owners c.as_slice.ensures.lent c.in_err-write_output.ensures.own c.in_err-write_output.ensures.others)

pub returns : goal.returns
returns g c =
    let order = c.args.order.now in
    let limits = c.args.limits.now in
    one_done (assign_command limits order) (input Topology order.topology limits.topology) (output Screen (codes "-"))
    c.in_ok-topology.topology c.in_ok-text.text c.as_slice.result.now
    (g.H.Host.part c.args.host.now) (g.H.Host.part c.read_input.new.host) (g.H.Host.part c.write_output.new.host)
    (assign_is_one limits order)
    (record {
      name = c.as_str-name.result.now;
      named = c.as_str-name.ensures.lent ∙ ap (λ (o : AssignView). o.topology) c.order.view_is;
      own = c.in_ok-topology.ensures.own;
      others = c.in_ok-topology.ensures.others;
    })
    c.in_ok-text.ensures.owners c.as_slice.ensures.lent c.in_ok-write_output.ensures.own c.in_ok-write_output.ensures.others
