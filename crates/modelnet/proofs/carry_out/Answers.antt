use Rattle.modelnet.proofs.carry_out.Goals as goal

pub returns : goal.returns
returns g c = record {
  status = c.modelnet-status.result;
  answered = c.modelnet-status.ensures.answers;
  exact = c.modelnet-status.ensures.exact;
  number_is = c.end.ensures;
}
