-- The offset, the cells and the characters are written one after another: the last text by `behind`, because its write
-- may fail, and the others by `Appends-trans`.
use Rattle.std.proofs.Common.{◌++◌, arith}
use Rattle.std.specs.Prelude.{codes}
use Rattle.std.specs.Io.KnownBytes.{Appends}
use Rattle.std.proofs.KnownBytes.{Appends-trans}
use Rattle.cobs_live.specs.Dump.{offset_text}
use Rattle.cobs_live.proofs.AppendLemmas.{behind}
use Rattle.cobs_live.proofs.dump.write_row.Goals as goal

pub returns : goal.returns
returns g c =
    let contents = g.W.Write.contents in
    let offset : Appends (contents c.args.output.now) (contents c.write.new.self) (offset_text c.args.offset ++ codes "  ") = grind arith in
    let left = Appends-trans _ _ _ _ _ offset c.in_ok-write_cells.ensures.written in
    let middle = Appends-trans _ _ _ _ _ left c.in_ok-write_all.ensures.bytes in
    let right = Appends-trans _ _ _ _ _ middle c.in_ok-write_cells-2.ensures.written in
    let bar = Appends-trans _ _ _ _ _ right c.in_ok-write_all-2.ensures.bytes in
    let characters = Appends-trans _ _ _ _ _ bar c.in_ok-write_characters.ensures.written in
    record { written = behind c.write_all-3.result _ _ _ _ _ characters c.write_all-3.ensures.bytes }
