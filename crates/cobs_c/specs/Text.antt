-- The text of each status.
use Rattle.std.specs.Prelude.{ℕ, ◌==◌, List, codes, if◌then◌else◌}
use Rattle.cobs_c.specs.declared.answer.TheConstants.{OK, MORE, TOO_SMALL, BROKEN, EMPTY}

-- the text of a status
abbrev pub words : ℕ → List ℕ
words status =
    if status == OK then codes "done"
    else (if status == MORE then codes "more bytes are needed"
    else (if status == TOO_SMALL then codes "the buffer is too small"
    else (if status == BROKEN then codes "the frame breaks off inside a block"
    else (if status == EMPTY then codes "there is no frame" else codes "unknown status"))))
