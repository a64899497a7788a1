-- Each iteration walks on from a code to the next one (`walked-on`). After the last code, all bytes are walked.
use Rattle.std.proofs.Common.{◌≡◌, ◌≢◌, ◌<◌, ◌-◌, ℕ, List, length, take, refl, sym, arith, length-set, length-take, take_all}
use Rattle.std.proofs.lemmas.List.Elements.{All-head, All-tail}
use Rattle.cobs.proofs.streaming.WalkLemmas.{IsWalked, code-some, walked-on, walked-past, rest-on}
use Rattle.cobs.proofs.dec.run.write_zeros_at_codes.Goals as goal

-- the bytes before the first code stay as they are
pub by_code-init : goal.by_code-init
by_code-init c =
    let first : ℕ = c.args.first in
    let dest : List ℕ = c.args.dest.now in
    let some : 0 < first = omega (arith, All-head (λ b. b ≢ 0) first dest c.requires.nonzero) in
    let front = walked-past first (first - 1) (take (first - 1) dest) (omega (arith, length-take {A = ℕ})) in
    let left : first - 1 - length dest ≡ first - 1 - length (take (first - 1) dest) = omega (arith, length-take (first - 1) dest) in
    record { some = some; byte = c.requires.byte; block = omega arith; done = rw left (sym front); rest = refl }

-- the walk passes the next code and the bytes of its block
pub by_code-preserved : goal.by_code-preserved
by_code-preserved c =
    let i = c.by_code.invariant in
    let dest : List ℕ = c.args.dest.now in
    let now : List ℕ = c.by_code.dest in
    let at : ℕ = c.by_code.at in
    let same : length now ≡ length dest = c.by_code.auto.dest in
    let inside : at < length dest = omega arith in
    let ended : at - length now ≡ 0 = omega arith in
    let done : IsWalked (take at now) c.by_code.code 0 c.args.first (c.args.first - 1) (take at dest) = rw ended at i.done in
    let some = code-some c.args.first c.by_code.code at dest now inside same done i.rest (All-tail (λ b. b ≢ 0) c.args.first dest c.requires.nonzero) in
    record {
      some = some;
      byte = omega arith;
      block = omega (arith, length-set now at 0);
      done = walked-on c.args.first c.by_code.code at dest now inside same done i.rest some;
      rest = rest-on c.args.first c.by_code.code at dest now inside same done i.rest some;
    }

-- the index grows, because a code isn't 0
pub by_code-smaller : goal.by_code-smaller
by_code-smaller c =
    let i = c.by_code.invariant in
    let dest : List ℕ = c.args.dest.now in
    let now : List ℕ = c.by_code.dest in
    let same : length now ≡ length dest = c.by_code.auto.dest in
    let ended : c.by_code.at - length now ≡ 0 = omega arith in
    let some = code-some c.args.first c.by_code.code c.by_code.at dest now (omega arith) same (rw ended at i.done) i.rest (All-tail (λ b. b ≢ 0) c.args.first dest c.requires.nonzero) in
    omega (arith, some, length-set now c.by_code.at 0)

-- all bytes are walked
pub returns : goal.returns
returns c =
    let i = c.by_code.invariant in
    let all = take_all c.by_code.at c.by_code.dest (omega arith) in
    let all-old = take_all c.by_code.at c.args.dest.now (omega arith) in
    rw (all, all-old) at i.done
