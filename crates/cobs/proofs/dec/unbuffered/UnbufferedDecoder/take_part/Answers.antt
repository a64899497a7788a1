-- The first n bytes were copied after the output, XORed with the sentinel (`put`). So they are there (`there`), as
-- `take_moved` requires, and `take_moved` feeds them.
use Rattle.std.proofs.Common.{◌≡◌, ◌≢◌, ◌≤◌, ◌+◌, ◌-◌, ◌++◌, List, ℕ, bit_xor, length, take, drop, sym, subst, arith, length-take-le}
use Rattle.std.proofs.lemmas.List.{length-map}
use Rattle.std.proofs.lemmas.List.Elements.{All-take}
use borrow.Rule.Slice.PartMut.{put_mid}
use Rattle.cobs.specs.Grammar.{HasNoZero}
use Rattle.cobs.specs.Sentinel.{xor_each}
use Rattle.cobs.proofs.format.SentinelLemmas.{front_xored}
use Rattle.cobs.proofs.streaming.SpanLemmas.{copied_put, copied-there}
use Rattle.cobs.proofs.dec.unbuffered.UnbufferedDecoder.take_part.Goals as goal

-- the first n bytes were copied to index `at` of `dest`, each XORed with s; `ys` are the bytes of `dest` from index
-- `at` on after the copy
module _ (bytes dest ys : List ℕ) (s n at : ℕ) (within : n ≤ length bytes) (room : at + n ≤ length dest)
    (copied : ys ≡ xor_each s (take n bytes) ++ drop (length (take n bytes)) (take (length dest - at) (drop at dest))) where
  -- the first n bytes, XORed
  abbrev xs : List ℕ
  xs = take n (xor_each s bytes)

  long : length xs ≡ n
  long = grind (arith, length-take-le, length-map, bit_xor)

  -- `dest` after the copy
  put : put_mid at (length dest - at) dest ys ≡ take at dest ++ (xs ++ drop (at + n) dest)
  put = grind (arith, copied_put, xs, front_xored, length-take-le)

  -- the copied bytes are at index `at`
  there : take (length (take n bytes)) (drop at (put_mid at (length dest - at) dest ys)) ≡ xor_each s (take n bytes)
  there = grind (arith, length-take-le, copied-there, xs, long, put, front_xored)

  -- none of the copied bytes is a zero
  nonzero : HasNoZero (xor_each s bytes) → HasNoZero (xor_each s (take n bytes))
  nonzero nz = subst HasNoZero (sym (front_xored bytes s n)) (All-take (λ b. b ≢ 0) n (xor_each s bytes) nz)

-- none of the bytes after the output, which are the copied bytes, is a zero
pub take_moved-requires-clause-nonzero : goal.take_moved-requires-clause-nonzero
take_moved-requires-clause-nonzero c =
    let bytes : List ℕ = c.args.bytes.now in
    let n : ℕ = c.span_len-len.result in
    let within : n ≤ length bytes = omega arith in
    let room : c.args.self.now.written + n ≤ length c.args.dest.now = omega arith in
    let at = there bytes c.args.dest.now _ c.args.sentinel n c.args.self.now.written within room c.copy_xored.ensures in
    subst HasNoZero (sym (rw (length-take-le n bytes within) at at)) (nonzero bytes c.args.dest.now _ c.args.sentinel n c.args.self.now.written within room c.copy_xored.ensures c.requires.nonzero)

-- `take_moved` feeds the n bytes
pub returns-clause-fed : goal.returns-clause-fed
returns-clause-fed c =
    let bytes : List ℕ = c.args.bytes.now in
    let n : ℕ = c.span_len-len.result in
    let within : n ≤ length bytes = omega arith in
    let room : c.args.self.now.written + n ≤ length c.args.dest.now = omega arith in
    -- `take_moved` is about the first n bytes, XORed (`long`), which were written to `dest` after the output (`put`)
    c.take_moved.ensures.fed c.args.dest.now _ room (long bytes c.args.dest.now _ c.args.sentinel n _ within room c.copy_xored.ensures) (put bytes c.args.dest.now _ c.args.sentinel n _ within room c.copy_xored.ensures)
