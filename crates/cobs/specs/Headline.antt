-- The definitions that the clauses `reads` and `only` of the decoders use. The headline of docs/PROMISES.md rests on
-- these clauses. They say for which bytes a decoder returns which message.
use Rattle.std.specs.Prelude.{◌≡◌, ◌≢◌, ℕ, List, [], length, take, Option, Result, IsOkAnd, IsSomeAnd, IfErr, ⊤}
use Rattle.cobs.specs.Grammar.{HasNoZero}
use Rattle.cobs.specs.Fields.Report.{frame_size_of}
use Rattle.cobs.specs.declared.error.DecodeReport.{DecodeReport}
use Rattle.cobs.specs.declared.error.DecodeError.{DecodeError}
use Rattle.cobs.specs.declared.error.PushError.{PushError}
use Rattle.cobs.specs.declared.error.DecodeVecError.{DecodeVecError}
use Rattle.cobs.specs.declared.error.DecodeVecError.TheVariants.{Decode, Memory}

-- the list may be a frame: it isn't empty, and doesn't contain the sentinel 0
abbrev pub IsPiece : List ℕ → Type 0
IsPiece p = (p ≢ []) × HasNoZero p

-- the message m has n bytes, and the buffer begins with m
abbrev pub BeginsWith : List ℕ → ℕ → List ℕ → Type 0
BeginsWith buffer n m = (n ≡ length m) × (take n buffer ≡ m)

-- the result is the length of the message m, and the buffer begins with m
abbrev pub ReturnsMessage : Result ℕ DecodeError → List ℕ → List ℕ → Type 0
ReturnsMessage result buffer m = IsOkAnd result (λ n. BeginsWith buffer n m)

-- the result is a report whose `frame_size` is the length of the message m, and the buffer begins with m
abbrev pub ReportsMessage : Result DecodeReport DecodeError → List ℕ → List ℕ → Type 0
ReportsMessage result buffer m = IsOkAnd result (λ report. BeginsWith buffer (frame_size_of report) m)

-- a push to a streaming decoder returns a report whose `frame_size` is the length of the message m, and the buffer
-- begins with m
abbrev pub PushesMessage : Result (Option DecodeReport) PushError → List ℕ → List ℕ → Type 0
PushesMessage result buffer m = IsOkAnd result (λ found. IsSomeAnd found (λ report. BeginsWith buffer (frame_size_of report) m))

-- the error of a call that should return a vector isn't `Memory`, which says that memory ran out
abbrev pub IsNotOutOfMemory : DecodeVecError → Type 0
IsNotOutOfMemory (Decode error) = ⊤
IsNotOutOfMemory (Memory error) = ⊥

-- a call that should return a vector has found memory for it: the call returned the vector, or an error other than
-- `Memory`
abbrev pub FoundMemory : {V : Type 0} → Result V DecodeVecError → Type 0
FoundMemory result = IfErr result IsNotOutOfMemory
