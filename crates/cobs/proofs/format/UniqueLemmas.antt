-- Each message has one encoded frame (`one_encoded`): the message says which bytes its first block has (`first_bytes`),
-- so blocks that stand for one message are equal, except for a lone block at the end (`same_blocks`). The length of the
-- frame is counted block by block (`len-blocks`).
use Rattle.std.proofs.Common.{◌⊎◌, inl, inr, ◌≡◌, ◌≢◌, ℕ, ◌+◌, true, List, [], ◌∷◌, ◌++◌, length, take, All, refl, sym, ap, ◌∙◌, arith, append-nil, append_assoc, length-append, take_at, take_all}
use Rattle.std.specs.List.{concat}
use Rattle.std.proofs.lemmas.Bool.{cases_Bool}
use Rattle.std.proofs.lemmas.List.{append_cancel_left}
use Rattle.std.proofs.lemmas.List.Elements.{All-head, All-tail}
use Rattle.cobs.specs.Grammar.{IsBlock, IsFull, is_full, joint, last_of, lone_block, message_of, bytes_of, IsEncodedFrame}
use Rattle.cobs.specs.Length.{encoded_len}
use Rattle.cobs.specs.Stream.{head}
use Rattle.cobs.proofs.decoding.OutcomeLemmas.{head-append, head-zero, head_alone}
use Rattle.cobs.proofs.format.GrammarLemmas.{one_frame, one_message, IsShorter, IsShorter-tail, shorter_end}
use Rattle.cobs.proofs.format.FrameLemmas.{concat-push}
use Rattle.cobs.proofs.format.LengthLemmas.{encoded_len-short, encoded_len-zero, encoded_len-full}

-- WHAT BLOCKS STAND FOR

-- two blocks or more stand for a message that isn't empty
some_message : (block : List ℕ) (blocks : List (List ℕ)) → IsBlock block → blocks ≢ [] → message_of (block ∷ blocks) ≢ []
some_message [] blocks is more e = absurd is
some_message (code ∷ bytes) [] is more e = more refl
some_message (code ∷ bytes) (next ∷ blocks) is more e = grind (arith, length-append, ap length e)

-- if one or more blocks stand for the empty message, they are only the lone block
empty_message : (b : List ℕ) (bs : List (List ℕ)) → All IsBlock (b ∷ bs) → message_of (b ∷ bs) ≡ [] → b ∷ bs ≡ lone_block ∷ []
empty_message [] bs h e = grind (arith, All-head)
empty_message (c ∷ bytes) [] h e = grind (arith, All-head)
empty_message (c ∷ bytes) (d ∷ ds) h e = absurd (some_message (c ∷ bytes) (d ∷ ds) (grind (arith, All-head)) (λ z. cc) e)

-- the length of the encoded frame of a block's bytes, its joint and a message m: the block's length, and then the frame
-- of m. If the block is full, m must not be empty.
len-block : (block m : List ℕ) → IsBlock block → (is_full block ≡ true → m ≢ []) → encoded_len (bytes_of block ++ joint block ++ m) ≡ length block + encoded_len m
len-block [] m is some = absurd is
len-block (code ∷ bytes) m is some = grind (arith, append_assoc, encoded_len-full, encoded_len-zero)

-- The length of the encoded frame of the message that some blocks stand for: the length of the blocks before the last
-- one, plus the length of the encoded frame of the last block's bytes. If the block before the last one is full, the
-- last block must have at least one byte after its code.
pub len-blocks : (front : List (List ℕ)) (code : ℕ) (bytes : List ℕ) → All IsBlock front → (is_full (last_of front) ≡ true → bytes ≢ [])
    → encoded_len (message_of (front ++ (code ∷ bytes) ∷ [])) ≡ length (concat front) + encoded_len bytes
len-blocks [] code bytes each some = omega arith
len-blocks (b ∷ []) code bytes each some = grind (arith, append-nil, len-block, All-head)
len-blocks (b ∷ c ∷ front) code bytes each some =
    let more = All-tail IsBlock b (c ∷ front) each in
    grind (arith, len-block, All-head, len-blocks (c ∷ front) code bytes more some, length-append b (concat (c ∷ front)))

-- THERE IS ONE ENCODED FRAME

-- the bytes of the first block are the first 254 bytes of the message, or its bytes before its first zero if these are
-- fewer
first_bytes : (c : ℕ) (a : List ℕ) (bs : List (List ℕ)) (n : ℕ) → All IsBlock ((c ∷ a) ∷ bs) → n ≡ 254 → a ≡ take n (head (message_of ((c ∷ a) ∷ bs)))
first_bytes c a [] n h e = let is = All-head IsBlock (c ∷ a) [] h in rw (head_alone a is.2) (grind (arith, take_all))
first_bytes c a (d ∷ ds) n h e =
    let is = All-head IsBlock (c ∷ a) (d ∷ ds) h in
    -- the bytes before the message's first zero begin with the bytes of the first block
    let cut : head (message_of ((c ∷ a) ∷ d ∷ ds)) ≡ a ++ head (joint (c ∷ a) ++ message_of (d ∷ ds))
    = ap head (grind (arith, append_assoc)) ∙ head-append a _ is.2 in
    grind (arith, head-zero, append-nil, take_all, take_at)

-- if two lists of blocks stand for the same message, their first blocks are equal (`first_bytes`)
same_first : (b c : List ℕ) (bs cs : List (List ℕ)) → All IsBlock (b ∷ bs) → All IsBlock (c ∷ cs) → message_of (b ∷ bs) ≡ message_of (c ∷ cs) → b ≡ c
same_first [] c bs cs h i e = grind (arith, All-head)
same_first (x ∷ b) [] bs cs h i e = grind (arith, All-head)
same_first (x ∷ b) (y ∷ c) bs cs h i e =
    -- b and c are both the first 254 bytes, or fewer, before the first zero of the same message (`e`)
    let bytes : b ≡ c = first_bytes x b bs 254 h refl ∙ ap (λ m. take 254 (head m)) e ∙ sym (first_bytes y c cs 254 i refl) in
    grind (arith, All-head)

-- if a block alone stands for the same message as this block and the blocks after it, this block is full, and the only
-- block after it is the lone block
then_lone : (b d : List ℕ) (ds : List (List ℕ)) → All IsBlock (b ∷ d ∷ ds) → bytes_of b ≡ message_of (b ∷ d ∷ ds) → IsFull b × (d ∷ ds ≡ lone_block ∷ [])
then_lone b d ds h e =
    -- the joint of b and the message of the other blocks have no byte
    let rest : [] ≡ joint b ++ message_of (d ∷ ds) = append_cancel_left (bytes_of b) [] _ (grind (arith, append-nil, append_assoc)) in
    elim (cases_Bool (is_full b)) [
      -- b is full, so its joint is empty, and the other blocks stand for the empty message
      | inl full ↦ (full, empty_message d ds (All-tail IsBlock b (d ∷ ds) h) (grind arith))
      -- b isn't full, so its joint is a zero, but the joint has no byte
      | inr open' ↦ grind arith
    ]

-- bs are the blocks cs and the lone block, and the last of cs is full
abbrev pub AddsLone : List (List ℕ) → List (List ℕ) → Type 0
AddsLone bs cs = (front : List (List ℕ)) × (block : List ℕ) × IsFull block × (cs ≡ front ++ block ∷ []) × (bs ≡ front ++ block ∷ lone_block ∷ [])

-- if blocks bs stand for the same message as the blocks cs, and cs are canonical (`IsShorter`), bs are cs, or cs and
-- the lone block
pub same_blocks : (bs cs : List (List ℕ)) → bs ≢ [] → cs ≢ [] → All IsBlock bs → All IsBlock cs → IsShorter cs → message_of bs ≡ message_of cs → (bs ≡ cs) ⊎ AddsLone bs cs
same_blocks [] cs some some' each each' shorter same = absurd (some refl)
same_blocks (b ∷ bs) [] some some' each each' shorter same = absurd (some' refl)
same_blocks (b ∷ []) (c ∷ []) some some' each each' shorter same = inl (ap (λ l. l ∷ []) (same_first b c [] [] each each' same))
same_blocks (b ∷ []) (c ∷ d ∷ ds) some some' each each' shorter same =
    -- the first blocks are equal, so cs would end in a full block and the lone block (`lone`), which `shorter` excludes
    let lone = then_lone c d ds each' (ap bytes_of (sym (same_first b c [] (d ∷ ds) each each' same)) ∙ same) in
    absurd (shorter [] c lone.0 (ap (λ l. c ∷ l) lone.1))
same_blocks (b ∷ d ∷ ds) (c ∷ []) some some' each each' shorter same =
    -- the first blocks are equal, so bs are this block, which is full, and the lone block (`lone`)
    let first = same_first b c (d ∷ ds) [] each each' same in
    let lone = then_lone b d ds each (grind arith) in
    inr ([], b, lone.0, ap (λ l. l ∷ []) (sym first), ap (λ l. b ∷ l) lone.1)
same_blocks (b ∷ d ∷ ds) (c ∷ k ∷ ks) some some' each each' shorter same =
    -- the first blocks are equal (`first`), so the other blocks stand for the same message too (`rest`): by induction
    let first = same_first b c (d ∷ ds) (k ∷ ks) each each' same in
    let rest : message_of (d ∷ ds) ≡ message_of (k ∷ ks) = grind (arith, append_cancel_left) in
    elim (same_blocks (d ∷ ds) (k ∷ ks) (λ z. cc) (λ z. cc) (All-tail IsBlock b (d ∷ ds) each) (All-tail IsBlock c (k ∷ ks) each') (IsShorter-tail c (k ∷ ks) shorter) rest) [
      | inl all ↦ inl cc
      | inr (front, block, full, is, longer) ↦ inr (b ∷ front, block, full, cc, cc)
    ]

-- the blocks of an encoded frame meet `IsShorter`
pub IsEncodedFrame-shorter : (f m : List ℕ) (e : IsEncodedFrame f m) → IsShorter e.reads.blocks
IsEncodedFrame-shorter f m e = grind (arith, one_frame)

-- a message has one encoded frame
pub one_encoded : (f g m : List ℕ) → IsEncodedFrame f m → IsEncodedFrame g m → f ≡ g
one_encoded f g m e d =
    let fr = e.reads.frame in
    let gr = d.reads.frame in
    elim (same_blocks _ _ fr.some gr.some fr.each gr.each (IsEncodedFrame-shorter g m d) (grind arith)) [
      | inl same ↦ grind arith
      -- the first frame would end in a full block and the lone block, but an encoded frame doesn't
      | inr (front, block, full, is, longer) ↦ absurd (IsEncodedFrame-shorter f m e front block full longer)
    ]

-- an encoded frame has `encoded_len` bytes
pub length-encoded : (f m : List ℕ) → IsEncodedFrame f m → length f ≡ encoded_len m
length-encoded f m e =
    let r = e.reads in
    -- `end` has the last block of the frame; `len-blocks` counts the blocks before it and then its bytes
    let end = shorter_end r.blocks r.frame.some r.frame.each (IsEncodedFrame-shorter f m e) in
    grind (arith, len-blocks, concat-push, encoded_len-short, length-append)

-- equal encoded frames have equal messages
pub same_message : (f g m k : List ℕ) → IsEncodedFrame f m → IsEncodedFrame g k → f ≡ g → m ≡ k
same_message f g m k e d same = one_message f m k e.reads (grind arith)
