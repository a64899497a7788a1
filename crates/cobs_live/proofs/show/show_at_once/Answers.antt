-- The text of the piece comes after the composed text (`kept`), or after the composed text was written (`through`,
-- `behind_text`). Without this file, the prover's own search would find the proofs too, but slowly.
use Rattle.std.proofs.Common.{◌≡◌, ◌∙◌, ◌++◌, ℕ, List, Option, Some, None, ap, append_assoc, refl, sym}
use Rattle.std.specs.Io.KnownBytes.{Appends, append_known}
use Rattle.cobs_live.proofs.ShowLemmas.{with_text-empty}
use Rattle.cobs_live.proofs.show.show_at_once.Goals as goal

-- if w is put after the composed text t, w is appended to the contents with this text
kept : (held : Option (List ℕ)) (t t' w : List ℕ) → t' ≡ t ++ w → Appends (append_known held t) (append_known held t') w
kept None t t' w is = tt
kept (Some x) t t' w is = ap (λ (l : List ℕ). x ++ l) is ∙ sym (append_assoc x t w)

-- the composed text t was written, and then w was
behind_text : (a b c : Option (List ℕ)) (t w : List ℕ) → Appends a b t → Appends b c w → Appends (append_known a t) c w
behind_text None b c t w p q = tt
behind_text (Some x) None c t w p q = absurd p
behind_text (Some x) (Some y) None t w p q = absurd q
behind_text (Some x) (Some y) (Some z) t w p q = q ∙ ap (λ (l : List ℕ). l ++ w) p

-- w was put after the composed text t, and then both were written
through : (a b : Option (List ℕ)) (t t' w : List ℕ) → t' ≡ t ++ w → Appends a b t' → Appends (append_known a t) b w
through None b t t' w is p = tt
through (Some x) None t t' w is p = absurd p
through (Some x) (Some y) t t' w is p = p ∙ ap (λ (l : List ℕ). x ++ l) is ∙ sym (append_assoc x t w)

-- the piece was put after the composed text
pub returns-then-not-is_nearly_full-clause-shown : goal.returns-then-not-is_nearly_full-clause-shown
returns-then-not-is_nearly_full-clause-shown g c =
    kept (g.W.Write.contents c.args.output.now) _ _ _ (c.if-keep.ensures.kept refl c.args.number c.args.times.now)

-- the piece was put after the composed text, and the text was written
pub returns-then-keep-clause-shown : goal.returns-then-keep-clause-shown
returns-then-keep-clause-shown g c =
    rw (with_text-empty (g.W.Write.contents c.write_to.new.output) c.write_to.new.self c.in_ok-write_to.ensures.empty)
    (through (g.W.Write.contents c.args.output.now) _ _ _ _
    (c.if-keep.ensures.kept refl c.args.number c.args.times.now) c.in_ok-write_to.ensures.written)

-- the composed text was written, and then the text of the piece was composed and written
pub returns-in_ok-write_to-3-clause-shown : goal.returns-in_ok-write_to-3-clause-shown
returns-in_ok-write_to-3-clause-shown g c =
    rw (with_text-empty (g.W.Write.contents c.write_to-then-compose.new.output) c.write_to-then-compose.new.self c.in_ok-write_to-3.ensures.empty)
    (behind_text (g.W.Write.contents c.args.output.now) (g.W.Write.contents c.write_to-2.new.output) _ _ _
    (rw (c.if-keep.ensures.same refl) at c.in_ok-write_to-2.ensures.written)
    (rw (c.if-compose.ensures.shown refl) at c.in_ok-write_to-3.ensures.written))

-- the composed text was written, and then the piece was written without it
pub returns-in_ok-show_piece-clause-shown : goal.returns-in_ok-show_piece-clause-shown
returns-in_ok-show_piece-clause-shown g c =
    rw (with_text-empty (g.W.Write.contents c.show_piece.new.output) c.clear.new.self c.clear.ensures.empty)
    (behind_text (g.W.Write.contents c.args.output.now) (g.W.Write.contents c.write_to-2.new.output) _ _ _
    (rw (c.if-keep.ensures.same refl) at c.in_ok-write_to-2.ensures.written) c.in_ok-show_piece.ensures.shown)
