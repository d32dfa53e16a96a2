-- What a sink does with the bytes that it is given (own).
use Rattle.std.specs.Prelude.{◌≡◌, ◌⊎◌, ◌+◌, ◌<◌, ◌≤◌, ℕ, Bool, true, false, List, [], ◌∷◌, ◌++◌, Option, Some, length, take, option_map, Result, MatchResult}
use Rattle.results.specs.declared.sink.SinkFault.{SinkFault}

-- what is known of a sink: how many calls failed, whether a `finish` succeeded and no `write` came after it, and the bytes taken, where the sink tells them
pub record SinkState : Type 0 where
  pub failed : ℕ
  pub settled : Bool
  pub taken : Option (List ℕ)

-- the known bytes, and then these
abbrev pub bytes_after : Option (List ℕ) → List ℕ → Option (List ℕ)
bytes_after known bytes = option_map (λ before. before ++ bytes) known

-- a `write` that took the first n bytes
pub record Took (old new : SinkState) (bytes : List ℕ) (n : ℕ) : Type 0 where
  pub some : 0 < n
  pub within : n ≤ length bytes
  pub same_count : new.failed ≡ old.failed
  pub unsettled : new.settled ≡ false
  pub bytes_taken : new.taken ≡ bytes_after old.taken (take n bytes)

-- a `write` that failed
pub record TookNothing (old new : SinkState) : Type 0 where
  pub counted : new.failed ≡ old.failed + 1
  pub unsettled : new.settled ≡ false
  pub same_bytes : new.taken ≡ old.taken

-- what a `write` does
abbrev pub Wrote : SinkState → SinkState → List ℕ → Result ℕ SinkFault → Type 0
Wrote old new bytes r = MatchResult r (λ n. Took old new bytes n) (λ _. TookNothing old new)

-- a `finish` that succeeded
pub record Settled (old new : SinkState) : Type 0 where
  pub same_count : new.failed ≡ old.failed
  pub now_settled : new.settled ≡ true
  pub same_bytes : new.taken ≡ old.taken

-- a `finish` that failed
pub record NotSettled (old new : SinkState) : Type 0 where
  pub counted : new.failed ≡ old.failed + 1
  pub same_mark : new.settled ≡ old.settled
  pub same_bytes : new.taken ≡ old.taken

-- what a `finish` does
abbrev pub Finished : SinkState → SinkState → Result Unit SinkFault → Type 0
Finished old new r = MatchResult r (λ _. Settled old new) (λ _. NotSettled old new)

-- the whole text was taken and settled
pub record SentAll (old new : SinkState) (text : List ℕ) : Type 0 where
  pub same_count : new.failed ≡ old.failed
  pub now_settled : new.settled ≡ true
  pub all_taken : new.taken ≡ bytes_after old.taken text

-- a `write` failed: the sink has taken a proper beginning of the text, and isn't settled
pub record SentBeginning (old new : SinkState) (text : List ℕ) : Type 0 where
  pub n : ℕ
  pub proper : n < length text
  pub unsettled : new.settled ≡ false
  pub beginning_taken : new.taken ≡ bytes_after old.taken (take n text)

-- whether a sink is settled once this text was taken: every `write` ends that, and an empty text has none
abbrev pub mark_after : Bool → List ℕ → Bool
mark_after before [] = before
mark_after before (_ ∷ _) = false

-- the sink has taken the whole text, and isn't settled by it: only `finish` is missing, or failed
pub record SentUnfinished (old new : SinkState) (text : List ℕ) : Type 0 where
  pub same_mark : new.settled ≡ mark_after old.settled text
  pub all_taken : new.taken ≡ bytes_after old.taken text

-- the sink failed once, and was called no more: in a `write`, or in the `finish` behind all of them
pub record SentPart (old new : SinkState) (text : List ℕ) : Type 0 where
  pub counted : new.failed ≡ old.failed + 1
  pub where_failed : SentBeginning old new text ⊎ SentUnfinished old new text

-- the whole text was taken, and nothing is settled since; or a `write` failed
abbrev pub SentUnsettled : SinkState → SinkState → List ℕ → Result Unit SinkFault → Type 0
SentUnsettled old new text r = MatchResult r (λ _. (new.failed ≡ old.failed) × SentUnfinished old new text) (λ _. (new.failed ≡ old.failed + 1) × SentBeginning old new text)

-- the whole text was taken and settled; or the sink failed once
abbrev pub Sent : SinkState → SinkState → List ℕ → Result Unit SinkFault → Type 0
Sent old new text r = MatchResult r (λ _. SentAll old new text) (λ _. SentPart old new text)

-- what a sink in memory holds
pub record MemState : Type 0 where
  pub bytes : List ℕ
  pub room : ℕ
  pub failures : ℕ
  pub settled : Bool

-- a sink in memory tells its bytes
abbrev pub mem_state : MemState → SinkState
mem_state s = record { failed = s.failures; settled = s.settled; taken = Some s.bytes }
