-- Legal histories of a desk with n numbers and some hands: events, each with its reply, the newest first. Source: own.
use Rattle.std.specs.Prelude.{◌≡◌, ℕ, ◌+◌, ◌==◌, Bool, true, false, ◌||◌, ◌&&◌, not, List, [], ◌∷◌, ◌++◌, if◌then◌else◌, nat_lt}
use Rattle.tile_book.specs.declared.desk_core.Event.{Event}
use Rattle.tile_book.specs.declared.desk_core.Event.TheVariants.{Draw, Post, Stop}
use Rattle.tile_book.specs.declared.desk_core.Reply.{Reply}
use Rattle.tile_book.specs.declared.desk_core.Reply.TheVariants.{Number, None, Ok, Stranger, Double, NoHand}

-- a draw that is answered None ends the drawing of its hand, and so does a stop
abbrev pub ends_draw : Bool → Reply → Bool
ends_draw same None = same
ends_draw same (Number t) = false
ends_draw same Ok = false
ends_draw same Stranger = false
ends_draw same Double = false
ends_draw same NoHand = false

abbrev pub ends : ℕ → Event → Reply → Bool
ends h (Draw k) r = ends_draw (k == h) r
ends h (Post k m) r = false
ends h (Stop k) r = k == h

-- the hand was answered None before, or was stopped before
abbrev pub has_ended : ℕ → List (Event × Reply) → Bool
has_ended h [] = false
has_ended h (x ∷ xs) = ends h x.0 x.1 || has_ended h xs

abbrev pub one_if : Bool → ℕ
one_if true = 1
one_if false = 0

-- a draw is live where its hand is known and has not ended before
abbrev pub is_live : ℕ → List (Event × Reply) → Event → Bool
is_live hands before (Draw h) = nat_lt h hands && not (has_ended h before)
is_live hands before (Post h k) = false
is_live hands before (Stop h) = false

-- the draw word after a history
abbrev pub live_draws : ℕ → List (Event × Reply) → ℕ
live_draws hands [] = 0
live_draws hands (x ∷ xs) = one_if (is_live hands xs x.0) + live_draws hands xs

abbrev pub posted_by : ℕ → Reply → List ℕ
posted_by k Ok = k ∷ []
posted_by k (Number t) = []
posted_by k None = []
posted_by k Stranger = []
posted_by k Double = []
posted_by k NoHand = []

abbrev pub posted : Event → Reply → List ℕ
posted (Draw h) r = []
posted (Post h k) r = posted_by k r
posted (Stop h) r = []

-- the numbers of the posts that were answered Ok, in their order: what the book holds after a history
abbrev pub accepted_in : List (Event × Reply) → List ℕ
accepted_in [] = []
accepted_in (x ∷ xs) = accepted_in xs ++ posted x.0 x.1

abbrev pub is_in : ℕ → List ℕ → Bool
is_in k [] = false
is_in k (x ∷ xs) = (x == k) || is_in k xs

-- the one legal reply after a history
abbrev pub expected : ℕ → ℕ → List (Event × Reply) → Event → Reply
expected n hands before (Draw h) =
    if nat_lt h hands then
    (if has_ended h before then None
    else if nat_lt (live_draws hands before) n then Number (live_draws hands before) else None)
    else NoHand
expected n hands before (Post h k) =
    if nat_lt h hands then
    (if nat_lt k n then (if is_in k (accepted_in before) then Double else Ok) else Stranger)
    else NoHand
expected n hands before (Stop h) = if nat_lt h hands then Ok else NoHand

abbrev pub IsLegal : ℕ → ℕ → List (Event × Reply) → Type 0
IsLegal n hands [] = Unit {0}
IsLegal n hands (x ∷ xs) = (x.1 ≡ expected n hands xs x.0) × IsLegal n hands xs

-- the history that goes on with these events and their replies, in their order
abbrev pub followed_by : List (Event × Reply) → List Event → List Reply → List (Event × Reply)
followed_by before [] rs = before
followed_by before (e ∷ es) [] = before
followed_by before (e ∷ es) (r ∷ rs) = followed_by ((e, r) ∷ before) es rs

-- the event is a post of this number by a known hand
abbrev pub posts_it : ℕ → ℕ → Event → Bool
posts_it hands k (Draw h) = false
posts_it hands k (Post h m) = nat_lt h hands && (m == k)
posts_it hands k (Stop h) = false

-- a known hand has posted this number
abbrev pub was_posted : ℕ → ℕ → List (Event × Reply) → Bool
was_posted hands k [] = false
was_posted hands k (x ∷ xs) = posts_it hands k x.0 || was_posted hands k xs
