-- Links that are cancelled in order: those that are left occur an odd number of times.
use Rattle.std.proofs.Common.{◌-◌, ◌≡◌, ◌⊎◌, inl, inr, ℕ, zero, suc, ◌<◌, List, [], ◌∷◌, ◌++◌, Bool, true, false, refl, sym, ap, ◌∙◌, arith, subst, ⊎_elim, eq-eqb, eqb-true, length, get_or, take}
use Rattle.std.specs.List.{AllPairs, Contains, count_by}
use Rattle.std.specs.Prelude.{◌==◌, ◌&&◌}
use Rattle.std.proofs.lemmas.List.{get_or_append_left, get_or_default, get_or_push, get_or-take, length_push, length-take}
use Rattle.std.proofs.lemmas.List.Elements.{Contains-append_left, Contains-get_or, Contains-push, Contains-push_cases}
use Rattle.std.proofs.lemmas.List.Quantifiers.{all_pairs_push}
use Rattle.geom.specs.declared.edge.Edge.{Edge}
use Rattle.geom.specs.EdgeOrder.{IsEdgeBefore}
use Rattle.geom.specs.Rounded.{is_odd}
use Rattle.geom.specs.Segments.{same_point}
use Rattle.geom.proofs.Edges.{edge_path}
use Rattle.geom.proofs.Lists.{In, contains_in, in_append, in_back, in_contains}
use Rattle.geom.proofs.ListOrder.{pairs_head, pairs_tail}
use Rattle.geom.proofs.Orders.{edge_before_itself, edge_before_trans}
use Rattle.geom.proofs.Points.{same_point_true, same_point_refl}
use Rattle.points_law.proofs.Choices.{◌⊕◌, par}
use Rattle.points_law.proofs.Even.{not_true}
use Rattle.points_law.proofs.Degrees.{par-append}
use Rattle.points_law.proofs.Layers.{odd_is}
use Rattle.cover_law.proofs.InRow.{some_odd}
use Rattle.feature_links.specs.declared.link.FeatureLink.{FeatureLink}
use Rattle.feature_links.specs.Odd.{AreInOrder, AreOdd, EndsIn, IsLinkBefore, IsToggled, same_link}

-- ---- when two links are the same
both_of : (a b : Bool) → a && b ≡ true → (a ≡ true) × (b ≡ true)
both_of a b h = (grind arith, grind arith)

both : (a b : Bool) → a ≡ true → b ≡ true → a && b ≡ true
both a b h k = grind arith

pub link_path : (l m : FeatureLink) → l.edge ≡ m.edge → l.feature ≡ m.feature → l ≡ m
link_path l m e f = λ i. record { edge = e i; feature = f i }

pub same_true : (l m : FeatureLink) → same_link l m ≡ true → l ≡ m
same_true l m h =
    let b = both_of (same_point l.edge.p m.edge.p && same_point l.edge.q m.edge.q) (l.feature == m.feature) h in
    let c = both_of (same_point l.edge.p m.edge.p) (same_point l.edge.q m.edge.q) b.0 in
    link_path l m (edge_path l.edge m.edge (same_point_true l.edge.p m.edge.p c.0) (same_point_true l.edge.q m.edge.q c.1)) (eqb-true l.feature m.feature b.1)

pub same_refl : (l : FeatureLink) → same_link l l ≡ true
same_refl l = both (same_point l.edge.p l.edge.p && same_point l.edge.q l.edge.q) (l.feature == l.feature)
    (both (same_point l.edge.p l.edge.p) (same_point l.edge.q l.edge.q) (same_point_refl l.edge.p) (same_point_refl l.edge.q)) (eq-eqb l.feature l.feature refl)

pub same_of : (l m : FeatureLink) → l ≡ m → same_link l m ≡ true
same_of l m h = subst (λ (x : FeatureLink). same_link l x ≡ true) h (same_refl l)

-- ---- the order is strict
less_itself : (n : ℕ) → n < n → ⊥
less_itself n h = omega arith

before_itself : (l : FeatureLink) → IsLinkBefore l l → ⊥
before_itself l (inl h) = edge_before_itself l.edge h
before_itself l (inr h) = less_itself l.feature h.1

before_trans : (l m n : FeatureLink) → IsLinkBefore l m → IsLinkBefore m n → IsLinkBefore l n
before_trans l m n (inl h) (inl k) = inl (edge_before_trans l.edge m.edge n.edge h k)
before_trans l m n (inl h) (inr k) = inl (subst (λ (e : Edge). IsEdgeBefore l.edge e) k.0 h)
before_trans l m n (inr h) (inl k) = inl (subst (λ (e : Edge). IsEdgeBefore e n.edge) (sym h.0) k)
before_trans l m n (inr h) (inr k) = inr (h.0 ∙ k.0, (let a = h.1 in let b = k.1 in omega arith))

-- ---- one link more
more : (l x : FeatureLink) (xs : List FeatureLink) → is_odd (count_by (same_link l) (xs ++ x ∷ [])) ≡ is_odd (count_by (same_link l) xs) ⊕ same_link l x
more l x xs = odd_is (same_link l) (xs ++ x ∷ []) ∙ par-append (same_link l) xs (x ∷ []) ∙ ap (λ (t : Bool). par (same_link l) xs ⊕ t) (alone (same_link l x)) ∙ ap (λ (t : Bool). t ⊕ same_link l x) (sym (odd_is (same_link l) xs))
  where
    alone : (a : Bool) → a ⊕ false ≡ a
    alone a = grind arith

turned : (a b c : Bool) → c ≡ a ⊕ b → b ≡ true → a ≡ true → c ≡ true → ⊥
turned a b c h k l m = absurd (grind arith)

made : (a b c : Bool) → c ≡ a ⊕ b → b ≡ true → a ≡ false → c ≡ true
made a b c h k l = grind arith

kept : (a b c : Bool) → c ≡ a ⊕ b → b ≡ false → c ≡ a
kept a b c h k = grind arith

-- ---- the last of an ascending list
last_or_not : (xs : List FeatureLink) → (xs ≡ []) ⊎ ((front : List FeatureLink) × (z : FeatureLink) × (xs ≡ front ++ z ∷ []))
last_or_not [] = inl refl
last_or_not (x ∷ xs) = inr (⊎_elim (λ e. ([], x, ap (λ (ys : List FeatureLink). x ∷ ys) e)) (λ h. (x ∷ h.0, h.1, ap (λ (ys : List FeatureLink). x ∷ ys) h.2)) (last_or_not xs))

before_last : (front : List FeatureLink) (z y : FeatureLink) → AllPairs IsLinkBefore (front ++ z ∷ []) → In y front → IsLinkBefore y z
before_last [] z y p i = absurd i
before_last (x ∷ xs) z y p (inl e) = subst (λ (w : FeatureLink). IsLinkBefore w z) e (pairs_head IsLinkBefore x (xs ++ z ∷ []) p z (in_back xs (z ∷ []) z (inl refl)))
before_last (x ∷ xs) z y p (inr i) = before_last xs z y (pairs_tail IsLinkBefore x (xs ++ z ∷ []) p) i

front_pairs : (front : List FeatureLink) (z : FeatureLink) → AllPairs IsLinkBefore (front ++ z ∷ []) → AllPairs IsLinkBefore front
front_pairs front z p i j d a b = subst (λ (w : FeatureLink × FeatureLink). IsLinkBefore w.0 w.1) (λ t. (get_left i (omega arith) t, get_left j b t)) (p i j d a (longer b))
  where
    longer : j < length front → j < length (front ++ z ∷ [])
    longer l = let s = length_push front z in omega arith

    get_left : (k : ℕ) → k < length front → get_or (front ++ z ∷ []) k d ≡ get_or front k d
    get_left k l = get_or_append_left front (z ∷ []) d k l

module _ (xs old new : List FeatureLink) (x : FeatureLink) (h : AreOdd xs old) (upto : (y : FeatureLink) → In y xs → (y ≡ x) ⊎ IsLinkBefore y x) where
  -- what is kept occurs, so it isn't behind x
  old_upto : (y : FeatureLink) → In y old → (y ≡ x) ⊎ IsLinkBefore y x
  old_upto y i =
      let o = some_odd (same_link y) xs (sym (odd_is (same_link y) xs) ∙ (h.exact y).0 (in_contains old y i)) in
      subst (λ (w : FeatureLink). (w ≡ x) ⊎ IsLinkBefore w x) (sym (same_true y o.0 o.2)) (upto o.0 o.1)

  cancelled : old ≡ new ++ x ∷ [] → AreOdd (xs ++ x ∷ []) new
  cancelled e = record { ascending = front_pairs new x up; exact = λ l. (to l, from l) }
    where
      up : AllPairs IsLinkBefore (new ++ x ∷ [])
      up = subst (λ (ys : List FeatureLink). AllPairs IsLinkBefore ys) e h.ascending

      there : (l : FeatureLink) → Contains new l → Contains old l
      there l c = subst (λ (ys : List FeatureLink). Contains ys l) (sym e) (Contains-append_left new (x ∷ []) l c)

      to : (l : FeatureLink) → Contains new l → is_odd (count_by (same_link l) (xs ++ x ∷ [])) ≡ true
      to l c = kept (is_odd (count_by (same_link l) xs)) (same_link l x) (is_odd (count_by (same_link l) (xs ++ x ∷ []))) (more l x xs)
          (not_true (same_link l x) (λ t. before_itself x (subst (λ (w : FeatureLink). IsLinkBefore w x) (same_true l x t) (before_last new x l up (contains_in new l c)))))
          ∙ (h.exact l).0 (there l c)

      from : (l : FeatureLink) → is_odd (count_by (same_link l) (xs ++ x ∷ [])) ≡ true → Contains new l
      from l t = by_same (same_link l x) refl
        where
          x_there : Contains old x
          x_there = subst (λ (ys : List FeatureLink). Contains ys x) (sym e) (Contains-push new x)

          by_same : (b : Bool) → same_link l x ≡ b → Contains new l
          by_same true s = absurd (turned (is_odd (count_by (same_link l) xs)) (same_link l x) (is_odd (count_by (same_link l) (xs ++ x ∷ []))) (more l x xs) s ((h.exact l).0 (subst (λ (w : FeatureLink). Contains old w) (sym (same_true l x s)) x_there)) t)
          by_same false s =
              let o = (h.exact l).1 (sym (kept (is_odd (count_by (same_link l) xs)) (same_link l x) (is_odd (count_by (same_link l) (xs ++ x ∷ []))) (more l x xs) s) ∙ t) in
              ⊎_elim (λ c. c) (λ k. absurd (let q = same_of l x (sym k) in cc)) (Contains-push_cases new x l (subst (λ (ys : List FeatureLink). Contains ys l) e o))

  -- x is not there, where it isn't the last
  absent : ¬ (EndsIn old x) → In x old → ⊥
  absent n i = ⊎_elim (λ e. subst (λ (ys : List FeatureLink). In x ys) e i) (λ f. behind f.0 f.1 f.2) (last_or_not old)
    where
      behind : (front : List FeatureLink) (z : FeatureLink) → old ≡ front ++ z ∷ [] → ⊥
      behind front z e = ⊎_elim
          (λ k. n (front, e ∙ ap (λ (w : FeatureLink). front ++ w ∷ []) k))
          (λ b. ⊎_elim
          (λ j. before_itself x (before_trans x z x (before_last front z x (subst (λ (ys : List FeatureLink). AllPairs IsLinkBefore ys) e h.ascending) j) b))
          (λ j. ⊎_elim (λ k. before_itself x (subst (λ (w : FeatureLink). IsLinkBefore w x) k b)) (λ a. absurd a) j)
          (in_append front (z ∷ []) x (subst (λ (ys : List FeatureLink). In x ys) e i)))
          (old_upto z (subst (λ (ys : List FeatureLink). In z ys) (sym e) (in_back front (z ∷ []) z (inl refl))))

  added : ¬ (EndsIn old x) → new ≡ old ++ x ∷ [] → AreOdd (xs ++ x ∷ []) new
  added n e = subst (λ (ys : List FeatureLink). AreOdd (xs ++ x ∷ []) ys) (sym e) (record {
    ascending = all_pairs_push IsLinkBefore old x h.ascending (λ k d l. first (get_or old k d) (contains_in old (get_or old k d) (Contains-get_or old k d l)));
    exact = λ l. (to l, from l);
  })
    where
      first : (y : FeatureLink) → In y old → IsLinkBefore y x
      first y i = ⊎_elim (λ k. absurd (absent n (subst (λ (w : FeatureLink). In w old) k i))) (λ b. b) (old_upto y i)

      fresh : is_odd (count_by (same_link x) xs) ≡ false
      fresh = not_true (is_odd (count_by (same_link x) xs)) (λ t. absent n (contains_in old x ((h.exact x).1 t)))

      to : (l : FeatureLink) → Contains (old ++ x ∷ []) l → is_odd (count_by (same_link l) (xs ++ x ∷ [])) ≡ true
      to l c = ⊎_elim
          (λ o. kept (is_odd (count_by (same_link l) xs)) (same_link l x) (is_odd (count_by (same_link l) (xs ++ x ∷ []))) (more l x xs)
          (not_true (same_link l x) (λ t. absent n (contains_in old x (subst (λ (w : FeatureLink). Contains old w) (same_true l x t) o))))
          ∙ (h.exact l).0 o)
          (λ k. subst (λ (w : FeatureLink). is_odd (count_by (same_link w) (xs ++ x ∷ [])) ≡ true) k
          (made (is_odd (count_by (same_link x) xs)) (same_link x x) (is_odd (count_by (same_link x) (xs ++ x ∷ []))) (more x x xs) (same_refl x) fresh))
          (Contains-push_cases old x l c)

      from : (l : FeatureLink) → is_odd (count_by (same_link l) (xs ++ x ∷ [])) ≡ true → Contains (old ++ x ∷ []) l
      from l t = by_same (same_link l x) refl
        where
          by_same : (b : Bool) → same_link l x ≡ b → Contains (old ++ x ∷ []) l
          by_same true s = subst (λ (w : FeatureLink). Contains (old ++ x ∷ []) w) (sym (same_true l x s)) (Contains-push old x)
          by_same false s = Contains-append_left old (x ∷ []) l ((h.exact l).1 (sym (kept (is_odd (count_by (same_link l) xs)) (same_link l x) (is_odd (count_by (same_link l) (xs ++ x ∷ []))) (more l x xs) s) ∙ t))

  pub toggled : IsToggled old x new → AreOdd (xs ++ x ∷ []) new
  toggled (inl e) = cancelled e
  toggled (inr k) = added k.0 k.1

pub none_odd : AreOdd [] []
none_odd = record { ascending = λ i j d a b. absurd (omega arith); exact = λ l. ((λ c. absurd (contains_in [] l c)), (λ t. absurd (let k = t in cc))) }

-- ---- the last item
pub at_end : (xs front : List FeatureLink) (z d : FeatureLink) → xs ≡ front ++ z ∷ [] → get_or xs (length xs - 1) d ≡ z
at_end xs front z d e =
    ap (λ (ys : List FeatureLink). get_or ys (length ys - 1) d) e
    ∙ get_or_push front z d (length (front ++ z ∷ []) - 1) (let s = length_push front z in omega arith)

pub last_is : (xs : List FeatureLink) (z : FeatureLink) → 0 < length xs → z ≡ get_or xs (length xs - 1) z → EndsIn xs z
last_is xs z l e = ⊎_elim
    (λ k. absurd (let s = ap length k in omega (arith, l, s)))
    (λ h. let o : h.1 ≡ z = sym (at_end xs h.0 h.1 z h.2) ∙ sym e in (h.0, h.2 ∙ ap (λ (w : FeatureLink). h.0 ++ w ∷ []) o))
    (last_or_not xs)

pub not_empty : (n : ℕ) (b : Bool) → b ≡ (n == 0) → b ≡ false → 0 < n
not_empty zero b h k = absurd (cc)
not_empty (suc n) b h k = omega arith

-- ---- the links up to the next one
pub upto_next : (links : List FeatureLink) (i : ℕ) (x : FeatureLink) → AreInOrder links → i < length links → x ≡ get_or links i x → (y : FeatureLink) → In y (take i links) → (y ≡ x) ⊎ IsLinkBefore y x
upto_next links i x up l e y j =
    let c = contains_in_take links i y (in_contains (take i links) y j) in
    subst (λ (w : FeatureLink × FeatureLink). (w.0 ≡ w.1) ⊎ IsLinkBefore w.0 w.1) (λ t. (c.2 t, (sym e) t)) (up c.0 i x c.1 l)
  where
    contains_in_take : (links : List FeatureLink) (i : ℕ) (y : FeatureLink) → Contains (take i links) y → (k : ℕ) × (k < i) × (get_or links k x ≡ y)
    contains_in_take links i y (k, a, b) =
        let s = length-take i links in
        let n : k < i = omega (arith, a, s) in
        let m : k < length links = omega (arith, a, s) in
        (k, n, get_or_default links k x y m ∙ sym (get_or-take i links k y n) ∙ b)
