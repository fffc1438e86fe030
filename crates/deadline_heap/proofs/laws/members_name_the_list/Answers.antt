use Rattle.deadline_heap.proofs.Orders.{same_members}
use Rattle.deadline_heap.proofs.laws.members_name_the_list.Goals as goal

pub returns : goal.returns
returns c = same_members
