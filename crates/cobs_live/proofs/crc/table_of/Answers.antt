-- The entries for the numbers below `byte` are right, and so is the entry that is set for `byte` (`below_more`).
use Rattle.std.proofs.Common.{arith, length-set}
use Rattle.std.proofs.lemmas.Grind.{get_or-set_at}
use Rattle.std.proofs.lemmas.List.{get_or-set_other}
use Rattle.cobs_live.proofs.crc.table_of.Goals as goal
use borrow.Author.Count.{below_more}

pub by_byte-preserved : goal.by_byte-preserved
by_byte-preserved c = grind (arith, length-set, below_more, get_or-set_other, get_or-set_at)
