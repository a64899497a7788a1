-- Lemmas for `read_input`, on the bytes that a call has read from its input: the postcondition `HasRead` for the two
-- ways in which the call fails after some reads, if the input is too long (`HasRead-too_long`) and if memory runs out
-- (`HasRead-no_memory`).
use Rattle.std.proofs.Common.{◌≡◌, ◌+◌, ◌<◌, ◌≤◌, ℕ, List, ◌++◌, length, Option, Some, None, Result, Ok, Err, ap, sym, ◌∙◌, append_assoc, arith, refl}
use Rattle.std.specs.Prelude.{IsErrAnd}
use Rattle.std.specs.Io.KnownBytes.{Consumes}
use Rattle.cobs_tool.specs.declared.fault.ToolFault.{ToolFault}
use Rattle.cobs_tool.specs.declared.fault.ToolFault.TheVariants.{InputTooLong, OutOfMemory, ReadFailed, WriteFailed}
use Rattle.cobs_tool.specs.declared.input.TheConstants.{READ_LEN}
use Rattle.cobs_tool.specs.Input.{HasRead, max_input}

-- if one read returned xs, and the next read returned ys, both together returned `xs ++ ys`; a, b and c are the
-- reader's unread bytes, if they are known
pub Consumes-append : (a b c : Option (List ℕ)) (xs ys : List ℕ) → Consumes a b xs → Consumes b c ys → Consumes a c (xs ++ ys)
Consumes-append None b c xs ys p q = tt
Consumes-append (Some x) None c xs ys p q = absurd p
Consumes-append (Some x) (Some y) None xs ys p q = absurd q
Consumes-append (Some x) (Some y) (Some z) xs ys p q = p ∙ ap (λ l. xs ++ l) q ∙ sym (append_assoc xs ys z)

-- more bytes than the limit were read, but not more than one read beyond it: the fault `InputTooLong` meets `HasRead`
pub HasRead-too_long : {A : Type 0} (old new : Option (List ℕ)) (xs : List ℕ) → Consumes old new xs → max_input < length xs
    → length xs ≤ max_input + READ_LEN → HasRead {A = A} old new (Err InputTooLong)
HasRead-too_long old new xs read long stopped = record {
  bytes = xs;
  consumed = read;
  too_long = (λ _. long, λ _. refl);
  stopped = stopped;
  whole = tt;
  whole_at_write = λ e. absurd cc;
}

-- bytes within the limit were read, and the result is `OutOfMemory`: this meets `HasRead`. Every other result
-- contradicts the premise.
pub HasRead-no_memory : {A : Type 0} (old new : Option (List ℕ)) (xs : List ℕ) (result : Result A ToolFault) → Consumes old new xs → length xs ≤ max_input
    → IsErrAnd result (λ fault. fault ≡ OutOfMemory) → HasRead {A = A} old new result
HasRead-no_memory old new xs (Err OutOfMemory) read within e = record {
  bytes = xs;
  consumed = read;
  too_long = (λ e. absurd cc, λ long. absurd (omega arith));
  stopped = omega arith;
  whole = tt;
  whole_at_write = λ e. absurd cc;
}
HasRead-no_memory old new xs (Err InputTooLong) read within e = absurd cc
HasRead-no_memory old new xs (Err ReadFailed) read within e = absurd cc
HasRead-no_memory old new xs (Err WriteFailed) read within e = absurd cc
HasRead-no_memory old new xs (Ok v) read within e = absurd e
