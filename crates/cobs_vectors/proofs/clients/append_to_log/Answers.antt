-- By `apart` of `law_10`, the outcomes of a log that is empty or ends in a zero, followed by a frame and a zero, are
-- the outcomes of the log and then the frame's message (`reported`).
-- `law_10`: Damage stays between its sentinels.
use Rattle.std.proofs.Common.{◌≡◌, ◌≢◌, ℕ, List, [], ◌∷◌, ◌++◌, length, ap, arith, append-nil, rules}
use Rattle.std.proofs.lemmas.List.Elements.{All-nil}
use Rattle.cobs.specs.Grammar.{HasNoZero}
use Rattle.cobs.specs.Laws.{IsAtSentinel}
use Rattle.cobs.specs.Stream.{Message, stream_outcomes, outcome_of}
use Rattle.cobs_vectors.proofs.clients.append_to_log.Goals as goal

-- the outcomes of a log, a frame f of m and a zero are the outcomes of the log and then the message m; `apart` and
-- `one` come from `law_10`, `message` from `law_11`, and `none` from `law_9`
reported : (log f m : List ℕ) (n : ℕ) → IsAtSentinel log → f ≢ [] → HasNoZero f
    → ((a d z : List ℕ) (n : ℕ) → IsAtSentinel a → stream_outcomes (a ++ d ++ 0 ∷ z) n ≡ stream_outcomes a n ++ stream_outcomes (d ++ 0 ∷ []) n ++ stream_outcomes z n)
    → stream_outcomes (f ++ 0 ∷ []) n ≡ outcome_of f n ∷ [] → outcome_of f n ≡ Message m → stream_outcomes [] n ≡ []
    → stream_outcomes ((log ++ f) ++ 0 ∷ []) n ≡ stream_outcomes log n ++ Message m ∷ []
reported log f m n at some nonzero apart one message none = grind (arith, append-nil)

pub returns-clause-reported : goal.returns-clause-reported
returns-clause-reported c = λ n held.
    -- the log, the frame that `encode_vec` returned, and the message
    let log : List ℕ = c.args.log.now in
    let f : List ℕ = c.in_ok-frame.frame.items in
    let m : List ℕ = c.args.message.now in
    let len = c.law_2.ensures.len f m c.in_ok-frame.ensures.frame in
    let lower = c.law_4.ensures.lower m in
    -- a frame isn't empty, because its length is at least 1 (`len`, `lower`)
    let some : f ≢ [] = λ e. (let z = ap length e in omega arith) in
    let nonzero : HasNoZero f = c.in_ok-frame.ensures.no_sentinel in
    -- the frame and a zero have one outcome (`one`), which is the message (`message`), and no bytes have no outcome
    -- (`none`)
    let one = c.law_10.ensures.one f n some nonzero in
    let message = c.law_11.ensures.message f m n c.in_ok-frame.ensures.frame.reads held in
    let none = c.law_9.ensures.none [] n (All-nil (λ b. b ≢ 0)) in
    -- the new log consists of the old log, the frame and a zero
    let items : c.push.new.self.items ≡ (log ++ f) ++ 0 ∷ [] = search rules in
    rw items (reported log f m n c.requires.at_sentinel some nonzero c.law_10.ensures.apart one message none)

-- the new log ends in a zero
pub returns-clause-at_sentinel : goal.returns-clause-at_sentinel
returns-clause-at_sentinel c = grind arith
