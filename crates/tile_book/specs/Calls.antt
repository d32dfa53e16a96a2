-- How the calls of threads stand in legal histories.
use Rattle.std.specs.Prelude.{◌≡◌, ℕ, ◌<◌, Bool, List, [], ◌∷◌, Option, Some, None, Result, Ok, Err}
use Rattle.tile_book.specs.declared.book.Returned.{Returned}
use Rattle.tile_book.specs.declared.book.Returned.TheVariants.{Stranger, Double}
use Rattle.tile_book.specs.declared.desk_core.Event.{Event}
use Rattle.tile_book.specs.declared.desk_core.Event.TheVariants.{Draw, Post}
use Rattle.tile_book.specs.declared.desk_core.Reply.{Reply}
use Rattle.tile_book.specs.declared.desk_core.Reply.TheVariants as reply
use Rattle.tile_book.specs.History.{IsLegal, accepted_in, live_draws, has_ended}

-- what a draw answers, as a reply of a history
abbrev pub draw_told : Option ℕ → Reply
draw_told None = reply.None
draw_told (Some k) = reply.Number k

-- what a post answers, as a reply of a history
abbrev pub post_told : {A P : Type 0} → Result A (Returned P) → Reply
post_told (Ok a) = reply.Ok
post_told (Err (Stranger p)) = reply.Stranger
post_told (Err (Double p)) = reply.Double

-- A known hand draws and is told r. After each legal history that has `word` live draws, in which the hand has ended where it is
-- `spent` and only there, this makes a legal history that has `next` live draws, in which the hand has ended where it is `spent'`
-- and only there
abbrev pub DrawsLegally : ℕ → ℕ → ℕ → Bool → Bool → Reply → Type 0
DrawsLegally n word next spent spent' r =
    (hands h : ℕ) (before : List (Event × Reply)) → h < hands → IsLegal n hands before → live_draws hands before ≡ word → has_ended h before ≡ spent
    → IsLegal n hands ((Draw h, r) ∷ before) × (live_draws hands ((Draw h, r) ∷ before) ≡ next) × (has_ended h ((Draw h, r) ∷ before) ≡ spent')

-- A known hand posts k and is told r. After each legal history that has accepted the numbers `found`, this makes a legal history that
-- has accepted the numbers `left`
abbrev pub PostsLegally : ℕ → List ℕ → List ℕ → ℕ → Reply → Type 0
PostsLegally n found left k r =
    (hands h : ℕ) (before : List (Event × Reply)) → h < hands → IsLegal n hands before → accepted_in before ≡ found
    → IsLegal n hands ((Post h k, r) ∷ before) × (accepted_in ((Post h k, r) ∷ before) ≡ left)

-- after some legal history, whatever hand posts k, this makes a legal history
abbrev pub HasLegalPost : ℕ → ℕ → Reply → Type 0
HasLegalPost n k r = (hands h : ℕ) → h < hands → (before : List (Event × Reply)) × IsLegal n hands ((Post h k, r) ∷ before)

-- the history that goes on with a hand's posts of these numbers, in their order, each of them accepted
abbrev pub posted_by_one : ℕ → List (Event × Reply) → List ℕ → List (Event × Reply)
posted_by_one h before [] = before
posted_by_one h before (k ∷ ks) = posted_by_one h ((Post h k, reply.Ok) ∷ before) ks

-- these numbers are what a legal history has accepted: that of a hand's posts of them, in their order
abbrev pub HasHistory : ℕ → List ℕ → Type 0
HasHistory n ks = (hands h : ℕ) → h < hands → IsLegal n hands (posted_by_one h [] ks) × (accepted_in (posted_by_one h [] ks) ≡ ks)
