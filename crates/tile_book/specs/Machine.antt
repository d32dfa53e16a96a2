-- The machine that the core is.
use Rattle.std.specs.Prelude.{◌≡◌, ℕ, ◌+◌, ◌<◌, ◌≤◌, Bool, true, false, List, [], ◌∷◌, ◌++◌, length, if◌then◌else◌, nat_lt, slice_index_or, slice_set, replicate}
use Rattle.tile_book.specs.declared.desk_core.Event.{Event}
use Rattle.tile_book.specs.declared.desk_core.Event.TheVariants.{Draw, Post, Stop}
use Rattle.tile_book.specs.declared.desk_core.Reply.{Reply}
use Rattle.tile_book.specs.declared.desk_core.Reply.TheVariants.{Number, None, Ok, Stranger, Double, NoHand}
use Rattle.tile_book.specs.History.{IsLegal, has_ended, live_draws, accepted_in, is_in, one_if}
use Rattle.tile_book.specs.declared.draw.TheConstants.{MOST_HANDS, MOST_NUMBERS}

pub record CoreView : Type 0 where
  pub limit : ℕ
  pub word : ℕ
  pub spent : List Bool
  pub held : List Bool
  pub accepted : List ℕ

abbrev pub trues : List Bool → ℕ
trues [] = 0
trues (b ∷ bs) = one_if b + trues bs

pub record IsSound (c : CoreView) : Type 0 where
  pub limit : c.limit ≤ MOST_NUMBERS
  pub hands : length c.spent ≤ MOST_HANDS
  pub word : c.word ≤ c.limit + trues c.spent
  pub places : length c.held ≡ c.limit
  pub held : (k : ℕ) → k < c.limit → slice_index_or c.held k false ≡ is_in k c.accepted
  pub count : trues c.held ≡ length c.accepted

abbrev pub is_spent : CoreView → ℕ → Bool
is_spent c h = slice_index_or c.spent h false

abbrev pub draw_reply : CoreView → ℕ → Reply
draw_reply c h =
    if nat_lt h (length c.spent) then (if is_spent c h then None else if nat_lt c.word c.limit then Number c.word else None)
    else NoHand

abbrev pub drawn_after : CoreView → ℕ → CoreView
drawn_after c h =
    if nat_lt h (length c.spent) then
    (if is_spent c h then c
    else if nat_lt c.word c.limit then record c { word = c.word + 1 }
    else record c { word = c.word + 1; spent = slice_set c.spent h true })
    else c

abbrev pub post_reply : CoreView → ℕ → ℕ → Reply
post_reply c h k =
    if nat_lt h (length c.spent) then
    (if nat_lt k c.limit then (if slice_index_or c.held k false then Double else Ok) else Stranger)
    else NoHand

abbrev pub posted_after : CoreView → ℕ → ℕ → CoreView
posted_after c h k =
    if nat_lt h (length c.spent) then
    (if nat_lt k c.limit then
    (if slice_index_or c.held k false then c
    else record c { held = slice_set c.held k true; accepted = c.accepted ++ k ∷ [] })
    else c)
    else c

abbrev pub stop_reply : CoreView → ℕ → Reply
stop_reply c h = if nat_lt h (length c.spent) then Ok else NoHand

abbrev pub stopped_after : CoreView → ℕ → CoreView
stopped_after c h = if nat_lt h (length c.spent) then record c { spent = slice_set c.spent h true } else c

abbrev pub reply_of : CoreView → Event → Reply
reply_of c (Draw h) = draw_reply c h
reply_of c (Post h k) = post_reply c h k
reply_of c (Stop h) = stop_reply c h

abbrev pub after : CoreView → Event → CoreView
after c (Draw h) = drawn_after c h
after c (Post h k) = posted_after c h k
after c (Stop h) = stopped_after c h

abbrev pub replies_of : CoreView → List Event → List Reply
replies_of c [] = []
replies_of c (e ∷ es) = reply_of c e ∷ replies_of (after c e) es

abbrev pub after_all : CoreView → List Event → CoreView
after_all c [] = c
after_all c (e ∷ es) = after_all (after c e) es

abbrev pub new_core : ℕ → ℕ → CoreView
new_core n hands = record { limit = n; word = 0; spent = replicate hands false; held = replicate n false; accepted = [] }

-- the core stands where the history leaves it
pub record Agrees (c : CoreView) (before : List (Event × Reply)) : Type 0 where
  pub word : c.word ≡ live_draws (length c.spent) before
  pub spent : (h : ℕ) → h < length c.spent → is_spent c h ≡ has_ended h before
  pub accepted : c.accepted ≡ accepted_in before

-- after a legal history that agrees with the core old, the longer one is legal, and agrees with the core new
abbrev pub StaysLegal : CoreView → CoreView → (List (Event × Reply) → List (Event × Reply)) → Type 0
StaysLegal old new longer = (before : List (Event × Reply)) → IsLegal old.limit (length old.spent) before → Agrees old before → IsLegal old.limit (length old.spent) (longer before) × Agrees new (longer before)
