use Rattle.std.proofs.Common.{◌≡◌, ◌+◌, ◌<◌, ◌++◌, ◌∷◌, [], ℕ, List, ap, arith, get_or, length, ◌∙◌, ⊎_elim}
use Rattle.std.proofs.Math.ListN.{get_or-append}
use Rattle.std.proofs.lemmas.Bool.{cases_lt}
use Rattle.std.proofs.lemmas.List.{get_or_push, length_push}
use Rattle.std.proofs.lemmas.Option.{slice_get_within}
use Rattle.geom.specs.declared.point.Pt.{Pt}
use Rattle.geom.specs.declared.segment.Seg.{Seg}
use Rattle.grid.specs.Tiles.{Owns}
use Rattle.hot_region.specs.Candidates.{AreCandidates}
use Rattle.routing_tests.proofs.pieces.all_numbers.Goals as goal

abbrev AreFirst : List ℕ → ℕ → Type 0
AreFirst xs n = (length xs ≡ n) × ((k d : ℕ) → k < n → get_or xs k d ≡ k)

pushed : (xs : List ℕ) (n : ℕ) → AreFirst xs n → AreFirst (xs ++ n ∷ []) (n + 1)
pushed xs n h = (
  length_push xs n ∙ ap (λ (m : ℕ). m + 1) h.0,
  λ k d l. ⊎_elim
      (λ m. get_or-append xs (n ∷ []) d k (let e = h.0 in omega arith) ∙ h.1 k d m)
      (λ m. let e : n ≡ k = omega arith in get_or_push xs n d k (h.0 ∙ e) ∙ e)
      (cases_lt k n),
)

all_are : (Owned : Pt → Type 0) (segments : List Seg) (xs : List ℕ) (n : ℕ) → n ≡ length segments → AreFirst xs n → AreCandidates Owned segments xs
all_are Owned segments xs n is h = record {
  ascending = λ k l. let a : get_or xs k 0 ≡ k = h.1 k 0 (let e = h.0 in omega arith) in let b : get_or xs (k + 1) 0 ≡ k + 1 = h.1 (k + 1) 0 (let e = h.0 in omega arith) in omega arith;
  below = λ k d l. let a : get_or xs k d ≡ k = h.1 k d (let e = h.0 in omega arith) in let e = h.0 in omega arith;
  complete = λ k s c at met own. let l = slice_get_within segments k s at in let e = h.0 in (k, omega arith, h.1 k k (omega arith));
}

pub loop-number-preserved : goal.loop-number-preserved
loop-number-preserved g c = rw c.in_ok-push.ensures.items (pushed c.loop-number.numbers.items c.loop-number.number c.loop-number.invariant)

pub returns : goal.returns
returns g c = all_are (Owns c.args.grid.now c.args.tile) c.args.segments.now c.loop-number.numbers.items c.loop-number.number (omega (arith, c.in-Ok.ensures.1, c.loop-number.auto.number-end, c.loop-number-test.false)) c.loop-number.invariant
