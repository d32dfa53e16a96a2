-- The boxes of parts of segments, put together.
use Rattle.std.proofs.Common.{◌≡◌, ℕ, ◌≤◌, List, [], ◌++◌, arith, length, sym, subst}
use Rattle.std.specs.Prelude.{Contains, None, Option, slice_range}
use Rattle.geom.specs.declared.rect.Rect.{Rect}
use Rattle.geom.specs.declared.segment.Seg.{Seg}
use Rattle.geom.proofs.Lists.{contains_in}
use Rattle.grid.specs.Tiles.{AreBounds, BoundsHold}
use Rattle.hands.specs.declared.part.Part.{Part}
use Rattle.results.proofs.EdgeLines.{whole_range}
use Rattle.results.proofs.LineParts.{both_ranges, none_between}

-- these bounds are in the limit, and hold the segments from one number to before another one
abbrev pub HoldsRange : List Seg → ℕ → ℕ → Option Rect → Type 0
HoldsRange segments from past bounds = AreBounds bounds × BoundsHold bounds (slice_range segments from past)

pub no_segments : (segments : List Seg) (bounds : Option Rect) → bounds ≡ None → HoldsRange segments 0 0 bounds
no_segments segments bounds none = rw none (tt, λ s h. contains_in [] s (subst (λ (ss : List Seg). Contains ss s) (none_between segments 0) h))

pub more_segments : (segments : List Seg) (bounds next both : Option Rect) → (AreBounds bounds → AreBounds next → AreBounds both) → ((front back : List Seg) → BoundsHold bounds front → BoundsHold next back → BoundsHold both (front ++ back))
    → (at : ℕ) (p : Part) → p.from ≡ at → at ≤ p.past → p.past ≤ length segments → HoldsRange segments 0 at bounds → HoldsRange segments p.from p.past next → HoldsRange segments 0 p.past both
more_segments segments bounds next both in_limit hold at p begins order within old new = (
  in_limit old.0 new.0,
  subst (λ ss. BoundsHold both ss) (sym (both_ranges segments 0 at p.past (omega arith) order))
      (hold (slice_range segments 0 at) (slice_range segments at p.past) old.1 (subst (λ n. BoundsHold next (slice_range segments n p.past)) begins new.1)),
)

pub all_segments : (segments : List Seg) (bounds : Option Rect) → HoldsRange segments 0 (length segments) bounds → AreBounds bounds × BoundsHold bounds segments
all_segments segments bounds h = (h.0, subst (λ ss. BoundsHold bounds ss) (whole_range segments) h.1)
