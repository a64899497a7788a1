-- Lemmas on the block that begins at an index of bytes without zeros, for the callers that go through a piece from code
-- to code (`decode_by_code`, `kind_by_code`). The bytes from the index on are a broken part of a block (`broken`),
-- exactly a block (`last`), or a block and more bytes (`split`, `more_some`).
use Rattle.std.proofs.Common.{◌≡◌, ◌≢◌, ◌∙◌, ℕ, ◌+◌, ◌-◌, ◌<◌, ◌≤◌, List, [], ◌∷◌, ◌++◌, length, take, drop, get_or, sym, ap, arith, append-nil, length-drop, length-take-le, take-append-drop}
use Rattle.std.proofs.lemmas.List.{drop-drop, drop_all, drop_more}
use Rattle.std.proofs.lemmas.List.Elements.{All-drop, All-get_or, All-take}
use Rattle.cobs.specs.Grammar.{HasNoZero, IsBlock}

-- the code at the index `read`, and the code - 1 bytes after it, or fewer if the list ends
abbrev pub block_at : List ℕ → ℕ → List ℕ
block_at list read = get_or list read 0 ∷ take (get_or list read 0 - 1) (drop (read + 1) list)

-- `read` is an index within a list that has no zero
module _ (list : List ℕ) (read : ℕ) (nonzero : HasNoZero list) (within : read < length list) where
  -- the byte at this index, which is a code
  abbrev code : ℕ
  code = get_or list read 0

  -- all bytes after the code
  abbrev more : List ℕ
  more = drop (read + 1) list

  -- the code isn't 0, because the list has no zero
  pub code_some : 0 < get_or list read 0
  code_some = grind (arith, All-get_or)

  -- the bytes from the index on are the code and the bytes `more`
  cons : drop read list ≡ code ∷ more
  cons = drop_more list read 0 within

  -- if fewer bytes are left than the code says, every property P that holds for each such broken part of a block holds
  -- for the bytes from the index on
  pub broken : (P : List ℕ → Type 0) → ((code : ℕ) (bytes : List ℕ) → length bytes + 1 < code → P (code ∷ bytes)) → length list - read < get_or list read 0
      → P (drop read list)
  broken P short less = grind (arith, cons, length-drop)

  -- if at least as many bytes are left as the code says, and the code is a byte, `block_at` is a block
  pub is_block : get_or list read 0 ≤ length list - read → get_or list read 0 < 256 → IsBlock (block_at list read)
  is_block fits below =
      -- the block has as many bytes after its code as the code says (`t`)
      let l = length-drop (read + 1) list in
      let t = length-take-le (code - 1) more (omega arith) in
      let some = code_some in
      (omega arith, below, All-take (λ b. b ≢ 0) (code - 1) more (All-drop (λ b. b ≢ 0) (read + 1) list nonzero))

  -- the bytes from the index on are the block and the bytes after it
  pub split : drop read list ≡ block_at list read ++ drop (read + get_or list read 0) list
  split =
      let some = code_some in
      -- the bytes after the block begin `code` places after the index
      let next : drop (code - 1) more ≡ drop (read + code) list = drop-drop (code - 1) (read + 1) list ∙ ap (λ (n : ℕ). drop n list) (omega arith) in
      cons ∙ ap (λ (x : List ℕ). code ∷ x) (sym (take-append-drop (code - 1) more)) ∙ ap (λ (x : List ℕ). block_at list read ++ x) next

  -- if more bytes are left than the code says, the list of the bytes after the block isn't empty
  pub more_some : get_or list read 0 < length list - read → drop (read + get_or list read 0) list ≢ []
  more_some far none = let l = length-drop (read + code) list in let e = ap length none in omega arith

  -- if exactly as many bytes are left as the code says, the bytes from the index on are the block
  pub last : length list - read ≡ get_or list read 0 → drop read list ≡ block_at list read
  last end = grind (arith, drop_all, split, append-nil)
