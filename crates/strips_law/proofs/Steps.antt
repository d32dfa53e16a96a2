-- The steps of a route within a strip, over a border and behind it, and the edges that they make.
use Rattle.std.proofs.Common.{◌≡◌, ◌∙◌, ◌⊎◌, ⊎_elim, inl, inr, ℕ, ◌+◌, List, [], ◌∷◌, ◌++◌, Bool, true, false, cond, None, Some, Option, refl, sym, ap, subst, arith}
use Rattle.std.specs.List.{last_or}
use Rattle.std.specs.Prelude.{◌≤◌, ℤ, Contains, count_by, if◌then◌else◌}
use Rattle.geom.specs.declared.edge.Edge.{Edge}
use Rattle.geom.specs.declared.point.Pt.{Pt}
use Rattle.geom.specs.declared.segment.Seg.{Seg}
use Rattle.geom.specs.declared.segment.Source.{Source}
use Rattle.geom.specs.Rounded.{joins}
use Rattle.geom.specs.Segments.{neighbours, same_source}
use Rattle.geom.proofs.Lists.{count-cons}
use Rattle.geom.proofs.Steps.{joined}
use Rattle.hot_region.proofs.ListLaws.{here, in_cons}
use Rattle.strips_law.specs.declared.line.Line.{Line}
use Rattle.strips_law.specs.Strips.{IsFrom, IsInStrip, IsRouteIn, line_steps, step_over, strip_at}
use Rattle.strips_law.proofs.Parts.{RoutesIn, each_with}

-- ---- lists

-- the step from one list to the one behind it
abbrev pub between : List Pt → List Pt → List (Pt × Pt)
between front [] = []
between front (q ∷ back) = step_over (last_or None front) q

same_between : (a b : Pt) (ps qs : List Pt) → between (a ∷ b ∷ ps) qs ≡ between (b ∷ ps) qs
same_between a b ps [] = refl
same_between a b ps (q ∷ qs) = refl

pub neighbours_append : (ps qs : List Pt) → neighbours (ps ++ qs) ≡ neighbours ps ++ (between ps qs ++ neighbours qs)
neighbours_append [] [] = refl
neighbours_append [] (q ∷ qs) = refl
neighbours_append (a ∷ []) [] = refl
neighbours_append (a ∷ []) (q ∷ qs) = refl
neighbours_append (a ∷ b ∷ ps) qs = ap (λ steps. (a, b) ∷ steps) (neighbours_append (b ∷ ps) qs ∙ ap (λ over. neighbours (b ∷ ps) ++ (over ++ neighbours qs)) (sym (same_between a b ps qs)))

pub count_append : {X : Type 0} (p : X → Bool) (xs ys : List X) → count_by p (xs ++ ys) ≡ count_by p xs + count_by p ys
count_append p [] ys = plain (count_by p ys)
  where
    plain : (n : ℕ) → n ≡ 0 + n
    plain n = omega arith
count_append p (x ∷ xs) ys = moved (count_by p (x ∷ xs ++ ys)) (count_by p (x ∷ xs)) (count_by p (xs ++ ys)) (count_by p xs) (count_by p ys) (cond (p x) 1 0)
    (count-cons p x (xs ++ ys)) (count-cons p x xs) (count_append p xs ys)
  where
    moved : (all first rest of_xs of_ys one : ℕ) → all ≡ one + rest → first ≡ one + of_xs → rest ≡ of_xs + of_ys → all ≡ first + of_ys
    moved all first rest of_xs of_ys one h k l = omega arith

-- the last of a list is one of it
pub last_in : (o : Option Pt) (ps : List Pt) (q : Pt) → last_or o ps ≡ Some q → (o ≡ Some q) ⊎ Contains ps q
last_in o [] q e = inl e
last_in o (p ∷ ps) q e = inr (⊎_elim (λ f. subst (λ r. Contains (p ∷ ps) r) (same f) (here p ps)) (λ i. in_cons p ps q i) (last_in (Some p) ps q e))
  where
    same : Some p ≡ Some q → p ≡ q
    same f = cc

pub last_listed : (ps : List Pt) (q : Pt) → last_or None ps ≡ Some q → Contains ps q
last_listed ps q e = ⊎_elim (λ f. absurd (never f)) (λ i. i) (last_in None ps q e)
  where
    never : None ≡ Some q → ⊥
    never f = cc

-- ---- steps that don't join an edge

module _ (e : Edge) where
  abbrev pub joining : List (Pt × Pt) → ℕ
  joining steps = count_by (joins e) steps

  no_step : (a b : Pt) (steps : List (Pt × Pt)) → (joins e (a, b) ≡ true → ⊥) → joining steps ≡ 0 → joining ((a, b) ∷ steps) ≡ 0
  no_step a b steps h k = at (joins e (a, b)) refl
    where
      none : (n : ℕ) → n ≡ 0 → 0 + n ≡ 0
      none n k = omega arith

      at : (t : Bool) → joins e (a, b) ≡ t → joining ((a, b) ∷ steps) ≡ 0
      at true f = absurd (h f)
      at false f = count-cons (joins e) (a, b) steps ∙ ap (λ t. cond {A = ℕ} t 1 0 + joining steps) f ∙ none (joining steps) k

  -- among points that lack an end of the edge
  pub none_within : (ps : List Pt) → (Contains ps e.p → Contains ps e.q → ⊥) → joining (neighbours ps) ≡ 0
  none_within [] h = refl
  none_within (a ∷ []) h = refl
  none_within (a ∷ b ∷ ps) h = no_step a b (neighbours (b ∷ ps))
      (λ j. ⊎_elim
      (λ t. h (subst (λ (c : Pt). Contains (a ∷ b ∷ ps) c) t.0 (here a (b ∷ ps))) (subst (λ (c : Pt). Contains (a ∷ b ∷ ps) c) t.1 (in_cons a (b ∷ ps) b (here b ps))))
      (λ t. h (subst (λ (c : Pt). Contains (a ∷ b ∷ ps) c) t.1 (in_cons a (b ∷ ps) b (here b ps))) (subst (λ (c : Pt). Contains (a ∷ b ∷ ps) c) t.0 (here a (b ∷ ps)))) (joined e (a, b) j))
      (none_within (b ∷ ps) (λ i j. h (in_cons a (b ∷ ps) e.p i) (in_cons a (b ∷ ps) e.q j)))

  -- from the one list to the other
  pub none_between : (front back : List Pt) → (Contains front e.p → Contains back e.q → ⊥) → (Contains front e.q → Contains back e.p → ⊥) → joining (between front back) ≡ 0
  none_between front [] h k = refl
  none_between front (q ∷ back) h k = at (last_or None front) refl
    where
      at : (o : Option Pt) → last_or None front ≡ o → joining (step_over o q) ≡ 0
      at None f = refl
      at (Some p) f = no_step p q [] (λ j. ⊎_elim
          (λ t. h (subst (λ (c : Pt). Contains front c) t.0 (last_listed front p f)) (subst (λ (c : Pt). Contains (q ∷ back) c) t.1 (here q back)))
          (λ t. k (subst (λ (c : Pt). Contains front c) t.0 (last_listed front p f)) (subst (λ (c : Pt). Contains (q ∷ back) c) t.1 (here q back))) (joined e (p, q) j)) refl

  pub count_parts : (front back : List Pt) → joining (neighbours (front ++ back)) ≡ joining (neighbours front) + (joining (between front back) + joining (neighbours back))
  count_parts front back = ap joining (neighbours_append front back) ∙ count_append (joins e) (neighbours front) (between front back ++ neighbours back) ∙ ap (λ (n : ℕ). joining (neighbours front) + n) (count_append (joins e) (between front back) (neighbours back))

  pub count_if : (t : Bool) (xs ys zs ws : List (Pt × Pt)) → joining xs ≡ joining ys → joining zs ≡ joining ws → joining ((if t then xs else []) ++ zs) ≡ joining ((if t then ys else []) ++ ws)
  count_if true xs ys zs ws h k = count_append (joins e) xs zs ∙ ap (λ (n : ℕ). n + joining zs) h ∙ ap (λ (n : ℕ). joining ys + n) k ∙ sym (count_append (joins e) ys ws)
  count_if false xs ys zs ws h k = k

-- ---- of a strip and what lies behind it

module _ (cuts : List ℤ) (strip : ℕ) (segments : List Seg) (e : Edge) where
  module _ (s : Seg) (front back : List Pt) (in_strip : IsRouteIn (IsInStrip cuts strip) segments s front) (behind : IsRouteIn (IsFrom cuts (strip + 1)) segments s back) where
    -- no pixel of the strip lies behind it
    not_here : (c : Pt) → strip + 1 ≤ strip_at cuts c → Contains front c → ⊥
    not_here c h i = never (strip_at cuts c) ((in_strip.exact c).0 i).2 h
      where
        never : (n : ℕ) → n ≡ strip → strip + 1 ≤ n → ⊥
        never n h k = omega arith

    not_there : (c : Pt) → strip_at cuts c ≡ strip → Contains back c → ⊥
    not_there c h i = never (strip_at cuts c) h ((behind.exact c).0 i).2
      where
        never : (n : ℕ) → n ≡ strip → strip + 1 ≤ n → ⊥
        never n h k = omega arith

    first_of_three : (all a b c : ℕ) → all ≡ a + (b + c) → b ≡ 0 → c ≡ 0 → all ≡ a
    first_of_three all a b c h k l = omega arith

    second_of_three : (all a b c : ℕ) → all ≡ a + (b + c) → a ≡ 0 → c ≡ 0 → all ≡ b
    second_of_three all a b c h k l = omega arith

    third_of_three : (all a b c : ℕ) → all ≡ a + (b + c) → a ≡ 0 → b ≡ 0 → all ≡ c
    third_of_three all a b c h k l = omega arith

    pub one_inside : strip_at cuts e.p ≡ strip → strip_at cuts e.q ≡ strip → joining e (neighbours (front ++ back)) ≡ joining e (neighbours front)
    one_inside p q = first_of_three _ _ _ _ (count_parts e front back) (none_between e front back (λ i j. not_there e.q q j) (λ i j. not_there e.p p j)) (none_within e back (λ i j. not_there e.p p i))

    pub one_across : strip_at cuts e.p ≡ strip → strip + 1 ≤ strip_at cuts e.q → joining e (neighbours (front ++ back)) ≡ joining e (between front back)
    one_across p q = second_of_three _ _ _ _ (count_parts e front back) (none_within e front (λ i j. not_here e.q q j)) (none_within e back (λ i j. not_there e.p p i))

    pub one_behind : strip + 1 ≤ strip_at cuts e.p → strip + 1 ≤ strip_at cuts e.q → joining e (neighbours (front ++ back)) ≡ joining e (neighbours back)
    one_behind p q = third_of_three _ _ _ _ (count_parts e front back) (none_within e front (λ i j. not_here e.p p i)) (none_between e front back (λ i j. not_here e.p p i) (λ i j. not_here e.q q i))

  -- edges in the strip are made there
  pub all_inside : (layer : Source) (lines : List Line) (fronts backs : List (List Pt)) → RoutesIn (IsInStrip cuts strip) segments lines fronts → RoutesIn (IsFrom cuts (strip + 1)) segments lines backs
      → strip_at cuts e.p ≡ strip → strip_at cuts e.q ≡ strip → joining e (line_steps layer lines (each_with fronts backs)) ≡ joining e (line_steps layer lines fronts)
  all_inside layer [] [] backs h k p q = refl
  all_inside layer [] (f ∷ fs) backs h k p q = absurd h
  all_inside layer (l ∷ ls) [] backs h k p q = absurd h
  all_inside layer (l ∷ ls) (f ∷ fs) [] h k p q = absurd k
  all_inside layer (l ∷ ls) (f ∷ fs) (b ∷ bs) h k p q =
      count_if e (same_source l.segment.layer layer) (neighbours (f ++ b)) (neighbours f) (line_steps layer ls (each_with fs bs)) (line_steps layer ls fs)
      (one_inside l.segment f b h.0 k.0 p q) (all_inside layer ls fs bs h.1 k.1 p q)

  -- edges behind it are made behind it
  pub all_behind : (layer : Source) (lines : List Line) (fronts backs : List (List Pt)) → RoutesIn (IsInStrip cuts strip) segments lines fronts → RoutesIn (IsFrom cuts (strip + 1)) segments lines backs
      → strip + 1 ≤ strip_at cuts e.p → strip + 1 ≤ strip_at cuts e.q → joining e (line_steps layer lines (each_with fronts backs)) ≡ joining e (line_steps layer lines backs)
  all_behind layer [] [] [] h k p q = refl
  all_behind layer [] [] (b ∷ bs) h k p q = absurd k
  all_behind layer [] (f ∷ fs) backs h k p q = absurd h
  all_behind layer (l ∷ ls) [] backs h k p q = absurd h
  all_behind layer (l ∷ ls) (f ∷ fs) [] h k p q = absurd k
  all_behind layer (l ∷ ls) (f ∷ fs) (b ∷ bs) h k p q =
      count_if e (same_source l.segment.layer layer) (neighbours (f ++ b)) (neighbours b) (line_steps layer ls (each_with fs bs)) (line_steps layer ls bs)
      (one_behind l.segment f b h.0 k.0 p q) (all_behind layer ls fs bs h.1 k.1 p q)
