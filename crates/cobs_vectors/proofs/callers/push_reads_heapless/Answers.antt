-- `came_to` returns true if and only if the push returned the message m. If it did, the piece reads as m (`only` of
-- `push`). If the piece reads as m (`r`), the push returned m (`reads` of `push`). `at` is the fact that the push
-- returned m, for a buffer b.
use Rattle.std.proofs.Common.{List, ℕ, sym, subst}
use Rattle.cobs.specs.Headline.{PushesMessage}
use Rattle.cobs_vectors.proofs.callers.push_reads_heapless.Goals as goal

pub returns : goal.returns
returns g c =
    let m : List ℕ = c.args.message.now in
    let at = λ (b : List ℕ). PushesMessage c.push-returned.result b m in (
      λ yes. c.push-returned.ensures.only c.args.piece.now m c.requires.idle c.requires.ended c.requires.piece (subst at c.dest.ensures.value (c.came_to.ensures.0 yes)),
      λ r. c.came_to.ensures.1 (subst at (sym c.dest.ensures.value) (c.push-returned.ensures.reads c.args.piece.now m c.requires.idle c.requires.ended r.0 r.1)),
    )
