-- `decode_blocks` decodes the bytes before the first sentinel. Its result is that of `decode_with_sentinel`
-- (`result_of_sentinel_decode-head`).
use Rattle.std.proofs.Common.{◌≡◌, ℕ, List, length, arith}
use Rattle.std.proofs.lemmas.Bool.{eqb-true}
use Rattle.cobs.specs.Overwritten.{overwritten}
use Rattle.cobs.specs.Decode.{result_of_sentinel_decode}
use Rattle.cobs.specs.Piece.{kept_output}
use Rattle.cobs.specs.Sentinel.{xor_each}
use Rattle.cobs.specs.Stream.{head}
use Rattle.cobs.proofs.decoding.HeadlineLemmas.{source_clauses, xored_below}
use Rattle.cobs.proofs.decoding.SourceSteps.{xor_no_zero, xor_head, result_of_sentinel_decode-head, nothing_kept}
use Rattle.cobs.proofs.dec.forms.decode_with_sentinel.Goals as goal

-- an empty source: nothing is written
pub returns-then-is_empty-clause-buffer : goal.returns-then-is_empty-clause-buffer
returns-then-is_empty-clause-buffer c = grind (arith, nothing_kept, eqb-true)

-- no byte that `decode_blocks` gets is the sentinel
pub decode_blocks-requires : goal.decode_blocks-requires
decode_blocks-requires c = grind (arith, xor_no_zero)

-- `decode_blocks` decoded the bytes before the first sentinel
pub returns : goal.returns
returns c =
    let f : List ℕ = xor_each c.args.sentinel c.args.source.now in
    let returned : c.decode_blocks.result ≡ result_of_sentinel_decode f (length c.args.dest.now) = grind (arith, xor_head, result_of_sentinel_decode-head) in
    let buffer : c.decode_blocks.new.dest ≡ overwritten c.args.dest.now (kept_output (head f)) = grind (arith, xor_head) in
    -- `source_clauses` also needs that the XORed bytes are below 256
    let below = xored_below c.args.sentinel c.args.source.now c.ranges.sentinel.fits c.type_inv.source in
    source_clauses _ _ _ _ returned buffer below
