use Rattle.flame_pieces.proofs.Freeing.{free_where_all, free_where_these}
use Rattle.flame_pieces.proofs.laws.free_where_done.Goals as goal

pub returns-clause-all : goal.returns-clause-all
returns-clause-all c = free_where_all

pub returns-clause-these : goal.returns-clause-these
returns-clause-these c = free_where_these
