-- The order of rows by their features is that of their sets.
use Rattle.std.proofs.Common.{◌≡◌, ◌⊎◌, inl, inr, ℕ, ◌<◌, List, [], ◌∷◌, Bool, true, false, Ordering, Less, Equal, Greater, refl, sym, ap, ◌∙◌, arith, get_or, ⊎_elim}
use Rattle.std.specs.Cmp.{IsStrictWeakOrder}
use Rattle.std.specs.Fn.{Called, ComparesAs}
use Rattle.std.specs.List.Sorted.{IsSortedBy}
use Rattle.std.specs.Prelude.{AllPairs, ◌≢◌}
use denote.Param.Members.{Mut}
use denote.Ref.{Bor}
use Rattle.std.specs.Cmp.Lexicographic.{nat_list_cmp_total, slice_cmp}
use Rattle.std.specs.Ordering.{MatchOrdering, is_lt, nat_cmp, ordering_then}
use Rattle.std.proofs.lemmas.Bool.{cases_eq, cases_lt}
use Rattle.std.proofs.lemmas.Cmp.{ranked}
use Rattle.std.proofs.lemmas.Fn.{always_returns_same}
use Rattle.std.proofs.lemmas.List.Sorted.{ranks_by, sorted_far}
use Rattle.cover_law.specs.Rows.{IsSetBefore}

-- a set that comes before another one compares as less
pub compares_less : (fs gs : List ℕ) → IsSetBefore fs gs → is_lt (slice_cmp nat_cmp fs gs) ≡ true
compares_less [] [] h = absurd h
compares_less [] (g ∷ gs) h = refl
compares_less (f ∷ fs) [] h = absurd h
compares_less (f ∷ fs) (g ∷ gs) h = by_first (nat_cmp f g) (ranked f g (nat_cmp f g) refl) h (λ k. compares_less fs gs k)
  where
    by_first : (o : Ordering) → MatchOrdering o (f < g) (f ≡ g) (g < f) → (f < g) ⊎ ((f ≡ g) × IsSetBefore fs gs) → (IsSetBefore fs gs → is_lt (slice_cmp nat_cmp fs gs) ≡ true) → is_lt (ordering_then o (slice_cmp nat_cmp fs gs)) ≡ true
    by_first Less m k rest = refl
    by_first Equal m (inl k) rest = absurd (omega (arith, m, k))
    by_first Equal m (inr k) rest = rest k.1
    by_first Greater m (inl k) rest = absurd (omega (arith, m, k))
    by_first Greater m (inr k) rest = let e = k.0 in absurd (omega (arith, m, e))

abbrev is_less : {X : Type 0} → (X → List ℕ) → X → X → Bool
is_less key x y = is_lt (slice_cmp nat_cmp (key x) (key y))

-- sorted by what compares lists, none comes before one in front of it
pub none_before : {X : Type 0} (key : X → List ℕ) {F : Type 0} {g : Mut F (Bor X × (Bor X × Unit {0})) Ordering} {f : F} (xs : List X)
    → ((lt : X → X → Bool) → IsStrictWeakOrder lt → ComparesAs g lt f → IsSortedBy lt xs)
    → ((a : Bor X × (Bor X × Unit {0})) (r : Ordering) (f' : F) → Called g f a r f' → (r ≡ slice_cmp nat_cmp (key a.0.now) (key a.1.0.now)) × (f' ≡ f))
    → AllPairs (λ x y. ¬ (IsSetBefore (key y) (key x))) xs
none_before {X} key {g = g} {f = f} xs h compares =
    let order : IsStrictWeakOrder (is_less key) = ranks_by nat_list_cmp_total key in
    let up : IsSortedBy (is_less key) xs = h (is_less key) order (always_returns_same g (λ a r. is_lt r ≡ is_less key a.0.now a.1.0.now) f (λ a r f' k. let c = compares a r f' k in (ap is_lt c.0, c.1))) in
    λ i j d a b k. clash (compares_less (key (get_or xs j d)) (key (get_or xs i d)) k) (sorted_far (is_less key) order xs up i j d (omega (arith, a)) b)
  where
    clash : {t : Bool} → t ≡ true → t ≡ false → ⊥
    clash {t} h k = cc

-- of two sets one comes before the other
pub set_order : (fs gs : List ℕ) → fs ≢ gs → ¬ (IsSetBefore gs fs) → IsSetBefore fs gs
set_order [] [] h n = absurd (h refl)
set_order [] (g ∷ gs) h n = tt
set_order (f ∷ fs) [] h n = absurd (n tt)
set_order (f ∷ fs) (g ∷ gs) h n = ⊎_elim
    (λ l. inl l)
    (λ l. ⊎_elim
    (λ e. inr (e, set_order fs gs (λ k. h (ap (λ (x : ℕ). x ∷ fs) e ∙ ap (λ (xs : List ℕ). g ∷ xs) k)) (λ k. n (inr (sym e, k)))))
    (λ e. absurd (n (inl (omega (arith, l, e)))))
    (cases_eq f g))
    (cases_lt f g)
