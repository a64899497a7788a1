-- Blocks, frames, and the messages that frames stand for. The sentinel is 0 here. The format is that of Cheshire and
-- Baker, "Consistent Overhead Byte Stuffing", 1999.
use Rattle.std.specs.Prelude.{◌≡◌, ◌≢◌, ℕ, ◌+◌, ◌<◌, ◌==◌, Bool, List, [], ◌∷◌, ◌++◌, length, All, IsTrue, if◌then◌else◌}
use Rattle.std.specs.List.{concat}
-- `HasNoZero`: no byte of the list is 0, the sentinel
pub use Rattle.cobs.specs.Bytes.{HasNoZero}

-- the list is a block: a code, from 1 to 255, and nonzero bytes after it. The code is the length of the block,
-- including the code itself.
abbrev pub IsBlock : List ℕ → Type 0
IsBlock [] = ⊥
IsBlock (code ∷ bytes) = (code ≡ length bytes + 1) × (code < 256) × HasNoZero bytes

-- the code of a block, which is its first byte
abbrev pub code_of : List ℕ → ℕ
code_of [] = 0
code_of (code ∷ bytes) = code

-- the bytes of a block after its code
abbrev pub bytes_of : List ℕ → List ℕ
bytes_of [] = []
bytes_of (code ∷ bytes) = bytes

-- whether a block is full, that is, whether its code is 255, the greatest code
abbrev pub is_full : List ℕ → Bool
is_full block = code_of block == 255

-- the block is full
abbrev pub IsFull : List ℕ → Type 0
IsFull block = IsTrue (is_full block)

-- the block 01, which has no byte after its code
abbrev pub lone_block : List ℕ
lone_block = 1 ∷ []

-- the bytes that the message has between the bytes of this block and the bytes of the next block: a zero, or no byte if
-- this block is full
abbrev pub joint : List ℕ → List ℕ
joint block = if is_full block then [] else 0 ∷ []

-- the message that a list of blocks stands for: for each block in order, the bytes after its code and then, unless it
-- is the last block, its joint
abbrev pub message_of : List (List ℕ) → List ℕ
message_of [] = []
message_of (block ∷ []) = bytes_of block
message_of (block ∷ next ∷ blocks) = bytes_of block ++ joint block ++ message_of (next ∷ blocks)

-- the last list of some lists, or the empty list if there are no lists
abbrev pub last_of : List (List ℕ) → List ℕ
last_of [] = []
last_of (xs ∷ []) = xs
last_of (xs ∷ next ∷ more) = last_of (next ∷ more)

-- the list f consists of these blocks, end to end, and there is at least one block
pub record IsFrameOf (f : List ℕ) (blocks : List (List ℕ)) : Type 0 where
  pub some : blocks ≢ []
  pub each : All IsBlock blocks
  pub whole : f ≡ concat blocks

-- f is a frame, and its blocks stand for the message m
pub record Reads (f m : List ℕ) : Type 0 where
  pub blocks : List (List ℕ)
  pub frame : IsFrameOf f blocks
  pub message : m ≡ message_of blocks

-- f is a frame, that is, it reads as some message
abbrev pub IsFrame : List ℕ → Type 0
IsFrame f = (m : List ℕ) × Reads f m

-- f is a frame, and its last two blocks aren't a full block followed by the lone block
pub record IsCanonical (f : List ℕ) : Type 0 where
  pub blocks : List (List ℕ)
  pub frame : IsFrameOf f blocks
  pub shorter : (front : List (List ℕ)) (block : List ℕ) → IsFull block → blocks ≢ front ++ block ∷ lone_block ∷ []

-- f is the frame that encoders write for the message m: of the frames that read as m, the shortest one
pub record IsEncodedFrame (f m : List ℕ) : Type 0 where
  pub reads : Reads f m
  pub canonical : IsCanonical f

-- f reads as m, and the last block of f isn't full. This block begins at this index, and has this code.
pub record IsOpenFrame (f m : List ℕ) (index code : ℕ) : Type 0 where
  pub front : List (List ℕ)
  pub bytes : List ℕ
  pub frame : IsFrameOf f (front ++ (code ∷ bytes) ∷ [])
  pub message : m ≡ message_of (front ++ (code ∷ bytes) ∷ [])
  pub begins : index ≡ length (concat front)
  pub not_full : code < 255
