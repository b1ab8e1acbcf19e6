-- `teaching_table::begins` meets its contract: in either arm the fixed table is the arm's case.
use Rattle.teaching_table.proofs.Taking.{begins_first, begins_newer, table_versioned}
use Rattle.teaching_table.proofs.begins.Goals as goal

pub is_newer-requires : goal.is_newer-requires
is_newer-requires c = (table_versioned _ _ _ c.in-Some.is c.requires.0, c.requires.1)

pub returns-in-None : goal.returns-in-None
returns-in-None c = begins_first _ _ c.in-None.is

pub returns-in-Some : goal.returns-in-Some
returns-in-Some c = begins_newer _ _ _ _ c.in-Some.is _ c.is_newer.ensures
