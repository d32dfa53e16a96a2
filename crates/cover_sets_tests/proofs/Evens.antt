-- What the tests decide of degrees says that they are even.
use Rattle.std.proofs.Common.{◌≡◌, ◌⊎◌, inl, inr, ℕ, zero, suc, ◌+◌, ◌-◌, ◌%◌, ◌<◌, List, [], ◌∷◌, map, Bool, true, false, cond, refl, sym, ap, ◌∙◌, arith, subst, ⊎_elim, length, get_or, take, drop, eqb}
use Rattle.std.specs.List.{All, count_by, filter, list_any}
use Rattle.std.specs.Prelude.{◌&&◌, ◌||◌, ◌==◌, slice_range}
use Rattle.std.proofs.lemmas.List.{get_or_default}
use Rattle.geom.specs.declared.point.Pt.{Pt}
use Rattle.geom.specs.declared.edge.Edge.{Edge}
use Rattle.geom.specs.Rounded.{HasEvenDegrees, degree, is_odd}
use Rattle.geom.specs.Segments.{same_point}
use Rattle.geom.proofs.Lists.{In, count-cons, some_passes}
use Rattle.geom.proofs.Points.{and_both, or_either, same_point_true}
use Rattle.cover_law.specs.declared.border.Border.{Border}
use Rattle.cover_law.specs.Cover.{Bordered, border, bordered, edges_in, has}
use Rattle.cover_law.proofs.RoundedBorders.{has_in}
use Rattle.cover_sets.proofs.Lists.{of_all}
use Rattle.cover_sets.proofs.Numbered.{other_than}
use Rattle.cover_sets_tests.specs.Deciding.{EndsAreEven, HasEvenEnds, ends_at, is_end}

-- ---- a search of a list is the definition's test
turned : (m n : ℕ) → eqb m n ≡ eqb n m
turned m n = grind arith

pub any_is_has : (f : ℕ) (xs : List ℕ) → list_any (λ y. eqb y f) xs ≡ has f xs
any_is_has f [] = refl
any_is_has f (x ∷ xs) = ap (λ (t : Bool). t || list_any (λ y. eqb y f) xs) (turned x f) ∙ ap (λ (t : Bool). (f == x) || t) (any_is_has f xs)

-- ---- one element more
pub one_more : {X : Type 0} (P : X → Type 0) (xs : List X) (i : ℕ) (x : X) → i < length xs → x ≡ get_or xs i x → ((k : ℕ) (d : X) → k < i → P (get_or xs k d)) → P x → (k : ℕ) (d : X) → k < i + 1 → P (get_or xs k d)
one_more P xs i x l is h p k d m = ⊎_elim (λ a. h k d a) (λ e. subst P (is ∙ get_or_default xs i x d l ∙ ap (λ (j : ℕ). get_or xs j d) (sym e)) p) (less k i m)
  where
    less : (k i : ℕ) → k < i + 1 → (k < i) ⊎ (k ≡ i)
    less zero zero m = inr refl
    less zero (suc i) m = inl (omega arith)
    less (suc k) zero m = absurd (omega arith)
    less (suc k) (suc i) m = ⊎_elim (λ a. inl (omega arith)) (λ e. inr (ap suc e)) (less k i (omega arith))

pub not_odd : (m n : ℕ) → m ≡ n → ¬ (m % 2 ≡ 1) → is_odd n ≡ false
not_odd m n e h = other_than (n % 2) 1 (λ o. h (ap (λ (k : ℕ). k % 2) e ∙ o))

-- ---- the degrees of the border of a feature
abbrev ends : Pt → Edge → Bool
ends v e = same_point e.p v || same_point e.q v

one_border : (t : Bool) (b : Bordered) (bs : List Bordered) (v : Pt) → count_by (ends v) (edges_in (cond t (b ∷ bs) bs)) ≡ cond (t && ends v b.edge) 1 0 + count_by (ends v) (edges_in bs)
one_border true b bs v = count-cons (ends v) b.edge (edges_in bs)
one_border false b bs v = omega arith

degree_is : (fs : List ℕ) (bs : List Border) (f : ℕ) (v : Pt) → degree (border f (map (bordered fs) bs)) v ≡ count_by (ends_at fs f v) bs
degree_is fs [] f v = refl
degree_is fs (b ∷ bs) f v = one_border (has f (slice_range fs b.from b.to)) (bordered fs b) (filter (λ c. has f c.features) (map (bordered fs) bs)) v
    ∙ ap (λ (n : ℕ). cond (ends_at fs f v b) 1 0 + n) (degree_is fs bs f v) ∙ sym (count-cons (ends_at fs f v) b bs)

in_drop : (n : ℕ) (xs : List ℕ) (f : ℕ) → In f (drop n xs) → In f xs
in_drop zero xs f i = i
in_drop (suc n) [] f i = i
in_drop (suc n) (x ∷ xs) f i = inr (in_drop n xs f i)

in_take : (n : ℕ) (xs : List ℕ) (f : ℕ) → In f (take n xs) → In f xs
in_take zero xs f i = absurd i
in_take (suc n) [] f i = i
in_take (suc n) (x ∷ xs) f (inl e) = inl e
in_take (suc n) (x ∷ xs) f (inr i) = inr (in_take n xs f i)

some_or_none : (n : ℕ) → (n ≡ 0) ⊎ (0 < n)
some_or_none zero = inl refl
some_or_none (suc n) = inr (omega arith)

module _ (fs : List ℕ) (bs : List Border) (h : All (HasEvenEnds fs bs) fs) (f : ℕ) (v : Pt) where
  at_end : (b : Border) → EndsAreEven fs f bs b → (same_point b.edge.p v ≡ true) ⊎ (same_point b.edge.q v ≡ true) → is_odd (count_by (ends_at fs f v) bs) ≡ false
  at_end b e (inl s) = subst (λ (u : Pt). is_odd (count_by (ends_at fs f u) bs) ≡ false) (same_point_true b.edge.p v s) e.first
  at_end b e (inr s) = subst (λ (u : Pt). is_odd (count_by (ends_at fs f u) bs) ≡ false) (same_point_true b.edge.q v s) e.second

  where_some : (b : Border) → In b bs → ends_at fs f v b ≡ true → is_odd (count_by (ends_at fs f v) bs) ≡ false
  where_some b i t =
      let both = and_both (has f (slice_range fs b.from b.to)) (is_end v b) t in
      let own : In f fs = in_drop b.from fs f (in_take (b.to - b.from) (drop b.from fs) f (has_in f (slice_range fs b.from b.to) both.0)) in
      at_end b (of_all (EndsAreEven fs f bs) bs (of_all (HasEvenEnds fs bs) fs h f own).each b i) (or_either (same_point b.edge.p v) (same_point b.edge.q v) both.1)

  is_even : is_odd (count_by (ends_at fs f v) bs) ≡ false
  is_even = ⊎_elim (λ (e : count_by (ends_at fs f v) bs ≡ 0). ap is_odd e) (λ l. let s = some_passes (ends_at fs f v) bs l in where_some s.0 s.1 s.2) (some_or_none (count_by (ends_at fs f v) bs))

pub all_even : (fs : List ℕ) (bs : List Border) → All (HasEvenEnds fs bs) fs → (f : ℕ) → HasEvenDegrees (border f (map (bordered fs) bs))
all_even fs bs h f v = ap is_odd (degree_is fs bs f v) ∙ is_even fs bs h f v
