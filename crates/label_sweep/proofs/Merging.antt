-- Sorted second ends, and a merge of them with the first ends of edges.
use Rattle.std.proofs.Common.{◌≡◌, ◌⊎◌, inl, inr, ⊎_elim, ℕ, zero, suc, Bool, true, false, cond, ◌+◌, ◌-◌, ◌<◌, ◌≤◌, List, [], ◌∷◌, ◌++◌, map, length, get_or, refl, sym, ap, ◌∙◌, subst, arith, Ordering, Less, Equal, Greater}
use Rattle.std.specs.Ordering.{is_lt, ord_min, MatchOrdering}
use Rattle.std.specs.List.{All, AllWithin, AllPairs, Contains, count_by}
use Rattle.std.specs.List.Sorted.{IsSorted}
use Rattle.std.proofs.lemmas.Bool.{cases_lt}
use Rattle.std.proofs.lemmas.List.{get_or_append_left, get_or_default, get_or_push, length_push}
use Rattle.std.proofs.lemmas.List.Elements.{All-append, All-cons, All-contains, All-nil, Contains-append_left, Contains-push}
use Rattle.std.proofs.lemmas.List.Quantifiers.{all_pairs_push}
use Rattle.std.proofs.lemmas.List.Sorted.{ranks_by, sorted_far}
use Rattle.geom.specs.declared.point.Pt.{Pt}
use Rattle.geom.specs.declared.edge.Counted.{Counted}
use Rattle.geom.specs.Order.{IsBefore, IsUpTo}
use Rattle.geom.specs.Segments.{same_point}
use Rattle.geom.specs.EdgeOrder.{IsEdgeBefore}
use Rattle.geom.proofs.Lists.{contains_in, in_contains, in_map, map_in, count-cons}
use Rattle.geom.proofs.Orders.{before_itself, pt_cmp, pt_ranks, pt_total}
use Rattle.geom.proofs.Points.{same_point_of, same_point_true}
use Rattle.label_sweep.proofs.Ends.{after_upto, le_cases, starts_upto}
use Rattle.label_sweep.proofs.Members.{some_item}
use Rattle.label_sweep.specs.declared.second_ends.Ending.{Ending}
use Rattle.label_sweep.specs.declared.second_ends.Ending.TheVariants.{Other}
use Rattle.label_sweep.specs.Endings.{AreMerged, ending_of}

-- ---- sorted points
not_less : (p q : Pt) (o : Ordering) → MatchOrdering o (IsBefore q p) (q ≡ p) (IsBefore p q) → is_lt o ≡ false → IsUpTo p q
not_less p q Less h e = absurd (cc)
not_less p q Equal h e = inl (sym h)
not_less p q Greater h e = inr h

pub up_to_pairs : (ps : List Pt) → IsSorted pt_cmp ps → AllPairs IsUpTo ps
up_to_pairs ps s i j d l m = not_less (get_or ps i d) (get_or ps j d) (pt_cmp (get_or ps j d) (get_or ps i d)) (pt_ranks (get_or ps j d) (get_or ps i d))
    (sorted_far (λ p q. is_lt (pt_cmp p q)) (ranks_by pt_total (λ p. p)) ps s i j d (omega (arith, l)) m)

upto_later : (ps : List Pt) → AllPairs IsUpTo ps → (n k : ℕ) (d : Pt) → n ≤ k → k < length ps → IsUpTo (get_or ps n d) (get_or ps k d)
upto_later ps a n k d l m = ⊎_elim
    (λ s. a n k d s m)
    (λ e. inl (ap (λ t. get_or ps t d) e))
    (le_cases n k l)

-- from the first end that lies after v on all do
pub ends_past : (ps : List Pt) → AllPairs IsUpTo ps → (v : Pt) (n : ℕ) (r : Pt) → n < length ps → IsBefore v (get_or ps n r) → AllWithin (λ q. IsBefore v q) ps n (length ps)
ends_past ps a v n r h b k d l m = after_upto v (get_or ps n d) (get_or ps k d) here (upto_later ps a n k d l m)
  where
    here : IsBefore v (get_or ps n d)
    here = let P : Pt → Type 0 = λ t. IsBefore v t in subst P (get_or_default ps n r d h) b

-- ---- the lesser of two points
upto_first : (p q : Pt) (o : Ordering) → MatchOrdering o (IsBefore q p) (q ≡ p) (IsBefore p q) → IsUpTo (cond (is_lt o) q p) p
upto_first p q Less h = inr h
upto_first p q Equal h = inl refl
upto_first p q Greater h = inl refl

upto_second : (p q : Pt) (o : Ordering) → MatchOrdering o (IsBefore q p) (q ≡ p) (IsBefore p q) → IsUpTo (cond (is_lt o) q p) q
upto_second p q Less h = inl refl
upto_second p q Equal h = inl (sym h)
upto_second p q Greater h = inr h

one_of : (p q : Pt) (second : Bool) → (cond second q p ≡ q) ⊎ (cond second q p ≡ p)
one_of p q true = inl refl
one_of p q false = inr refl

-- it is up to the first
pub lesser_first : (p q v : Pt) → v ≡ ord_min pt_cmp p q → IsUpTo v p
lesser_first p q v e = let P : Pt → Type 0 = λ t. IsUpTo t p in subst P (sym e) (upto_first p q (pt_cmp q p) (pt_ranks q p))

-- and up to the second
pub lesser_second : (p q v : Pt) → v ≡ ord_min pt_cmp p q → IsUpTo v q
lesser_second p q v e = let P : Pt → Type 0 = λ t. IsUpTo t q in subst P (sym e) (upto_second p q (pt_cmp q p) (pt_ranks q p))

-- and one of them
pub lesser_either : (p q v : Pt) → v ≡ ord_min pt_cmp p q → (v ≡ q) ⊎ (v ≡ p)
lesser_either p q v e = ⊎_elim (λ h. inl (e ∙ h)) (λ h. inr (e ∙ h)) (one_of p q (is_lt (pt_cmp q p)))

-- ---- how many ends are a point
abbrev ends_at : Pt → List Pt → ℕ
ends_at v ps = count_by (λ p. same_point p v) ps

not_yes : (b : Bool) → (b ≡ true → ⊥) → b ≡ false
not_yes true h = absurd (h refl)
not_yes false h = refl

differs : (p q : Pt) → (p ≡ q → ⊥) → same_point p q ≡ false
differs p q h = not_yes (same_point p q) (λ t. h (same_point_true p q t))

abbrev as_one : Bool → ℕ
as_one b = cond b 1 0

counts_as : {a b : Bool} → a ≡ b → as_one a ≡ as_one b
counts_as e = ap as_one e

-- in a list that passes from one number to another, and nowhere else, so many pass
count_between : {X : Type 0} (p : X → Bool) (xs : List X) (a b : ℕ) → a ≤ b → b ≤ length xs → AllWithin (λ x. p x ≡ false) xs 0 a → AllWithin (λ x. p x ≡ true) xs a b → AllWithin (λ x. p x ≡ false) xs b (length xs) → count_by p xs ≡ b - a
count_between p [] a b o l before here after = omega (arith, o, l)
count_between p (x ∷ xs) zero zero o l before here after = count-cons p x xs ∙ (let none = counts_as (after 0 x (omega arith) (omega arith)) in let rest = count_between p xs 0 0 (omega arith) (omega arith)
    (λ k d f m. absurd (omega (arith, m))) (λ k d f m. absurd (omega (arith, m))) (λ k d f m. after (suc k) d (omega arith) (omega (arith, m))) in omega (arith, none, rest))
count_between p (x ∷ xs) zero (suc b) o l before here after = count-cons p x xs ∙ (let one = counts_as (here 0 x (omega arith) (omega arith)) in let rest = count_between p xs 0 b (omega arith) (omega (arith, l))
    (λ k d f m. absurd (omega (arith, m))) (λ k d f m. here (suc k) d (omega arith) (omega (arith, m))) (λ k d f m. after (suc k) d (omega (arith, f)) (omega (arith, m))) in omega (arith, one, rest))
count_between p (x ∷ xs) (suc a) zero o l before here after = absurd (omega (arith, o))
count_between p (x ∷ xs) (suc a) (suc b) o l before here after = count-cons p x xs ∙ (let none = counts_as (before 0 x (omega arith) (omega arith)) in let rest = count_between p xs a b (omega (arith, o)) (omega (arith, l))
    (λ k d f m. before (suc k) d (omega arith) (omega (arith, m))) (λ k d f m. here (suc k) d (omega (arith, f)) (omega (arith, m))) (λ k d f m. after (suc k) d (omega (arith, f)) (omega (arith, m))) in omega (arith, none, rest))

-- ---- the merge
-- the first ends of edges
abbrev firsts : List Counted → List Pt
firsts cs = map (λ c. c.edge.p) cs

-- a point is a first end of an edge, or one of the ends
abbrev IsAmong : List Counted → List Pt → Pt → Type 0
IsAmong cs ends v = Contains (firsts cs) v ⊎ Contains ends v

-- the edges and ends before two numbers are merged into points, each before all edges and ends that are left
pub record AreMergedTo (cs : List Counted) (ends points : List Pt) (endings : List Ending) (next past : ℕ) : Type 0 where
  pub next_within : next ≤ length cs
  pub past_within : past ≤ length ends
  pub ascending : AllPairs IsBefore points
  pub edges_left : All (λ u. AllWithin (λ c. IsBefore u c.edge.p) cs next (length cs)) points
  pub ends_left : All (λ u. AllWithin (λ q. IsBefore u q) ends past (length ends)) points
  pub begun : AllWithin (λ c. Contains points c.edge.p) cs 0 next
  pub ended : AllWithin (Contains points) ends 0 past
  pub among : All (IsAmong cs ends) points
  pub long : length endings ≡ length points
  pub each : (k : ℕ) (u : Pt) → k < length points → get_or endings k Other ≡ ending_of (ends_at (get_or points k u) ends)

pub none_merged : (cs : List Counted) (ends points : List Pt) (endings : List Ending) → points ≡ [] → endings ≡ [] → AreMergedTo cs ends points endings 0 0
none_merged cs ends points endings none untold = subst (λ ps. AreMergedTo cs ends ps endings 0 0) (sym none) (subst (λ ts. AreMergedTo cs ends [] ts 0 0) (sym untold) (record {
  next_within = omega arith;
  past_within = omega arith;
  ascending = λ i j d l m. absurd (omega (arith, m));
  edges_left = All-nil (λ u. AllWithin (λ c. IsBefore u c.edge.p) cs 0 (length cs));
  ends_left = All-nil (λ u. AllWithin (λ q. IsBefore u q) ends 0 (length ends));
  begun = λ k d l m. absurd (omega (arith, m));
  ended = λ k d l m. absurd (omega (arith, m));
  among = All-nil (IsAmong cs ends);
  long = refl;
  each = λ k u l. absurd (omega (arith, l));
}))

-- a point up to another and the other way round is it
upto_same : (p q : Pt) → IsUpTo p q → IsUpTo q p → p ≡ q
upto_same p q (inl e) k = e
upto_same p q (inr h) k = absurd (before_itself p (after_upto p q p h k))

upto_trans : (p q r : Pt) → IsUpTo p q → IsUpTo q r → IsUpTo p r
upto_trans p q r (inl e) k = let P : Pt → Type 0 = λ t. IsUpTo t r in subst P (sym e) k
upto_trans p q r (inr h) k = inr (after_upto p q r h k)

first_among : (cs : List Counted) (c : Counted) → Contains cs c → Contains (firsts cs) c.edge.p
first_among cs c h = in_contains (firsts cs) c.edge.p (map_in (λ (t : Counted). t.edge.p) cs c (contains_in cs c h))

-- the step to the point v, which is the lesser of the first end of the next edge and the next end; the numbers behind it are next' and past'
pub record IsStep (cs : List Counted) (ends : List Pt) (next past : ℕ) (v : Pt) (next' past' : ℕ) : Type 0 where
  pub upto_end : (d : Pt) → past < length ends → IsUpTo v (get_or ends past d)
  pub upto_edge : (c : Counted) → next < length cs → IsUpTo v (get_or cs next c).edge.p
  pub either : ((past < length ends) × ((d : Pt) → v ≡ get_or ends past d)) ⊎ ((next < length cs) × ((c : Counted) → v ≡ (get_or cs next c).edge.p))
  pub next_later : next ≤ next'
  pub next_inside : next' ≤ length cs
  pub begun : AllWithin (λ c. IsUpTo c.edge.p v) cs next next'
  pub edges_past : AllWithin (λ c. IsBefore v c.edge.p) cs next' (length cs)
  pub past_later : past ≤ past'
  pub past_inside : past' ≤ length ends
  pub ended : AllWithin (λ q. IsUpTo q v) ends past past'
  pub others_past : AllWithin (λ q. IsBefore v q) ends past' (length ends)

module _ (cs : List Counted) (ends : List Pt) (next past : ℕ) (v : Pt) (next' past' : ℕ) (step : IsStep cs ends next past v next' past') where
  -- an edge or an end is passed
  further : (next < next') ⊎ (past < past')
  further = ⊎_elim
      (λ e. inr (⊎_elim (λ s. s) (λ s. absurd (before_itself v (let P : Pt → Type 0 = λ t. IsBefore v t in subst P (sym (e.1 v)) (step.others_past past v (omega (arith, s)) e.0)))) (le_cases past past' step.past_later)))
      (λ e. inl (⊎_elim (λ s. s) (λ s. absurd (before_itself v (let c = some_item cs next e.0 in let P : Pt → Type 0 = λ t. IsBefore v t in subst P (sym (e.1 c)) (step.edges_past next c (omega (arith, s)) e.0)))) (le_cases next next' step.next_later)))
      step.either

  pub fewer_left : (length cs - next') + (length ends - past') < (length cs - next) + (length ends - past)
  fewer_left = ⊎_elim (λ s. omega (arith, s, step.next_inside, step.past_later, step.past_inside)) (λ s. omega (arith, s, step.next_later, step.next_inside, step.past_inside)) further

module _ (cs : List Counted) (ends points : List Pt) (endings : List Ending) (next past : ℕ) (ascending : AllPairs (λ c d. IsEdgeBefore c.edge d.edge) cs) (sorted : AllPairs IsUpTo ends)
    (m : AreMergedTo cs ends points endings next past) (v : Pt) (next' past' : ℕ) (step : IsStep cs ends next past v next' past') where
  -- the points before v
  before_v : All (λ u. IsBefore u v) points
  before_v k d l = ⊎_elim
      (λ e. let P : Pt → Type 0 = λ t. IsBefore (get_or points k d) t in subst P (sym (e.1 d)) (m.ends_left k d l past d (omega arith) e.0))
      (λ e. let P : Pt → Type 0 = λ t. IsBefore (get_or points k d) t in let c = some_item cs next e.0 in subst P (sym (e.1 c)) (m.edges_left k d l next c (omega arith) e.0))
      step.either

  ends_before : AllWithin (λ q. IsBefore q v) ends 0 past
  ends_before k d l h = All-contains (λ u. IsBefore u v) points (get_or ends k d) before_v (m.ended k d l h)

  -- the edges and the ends from one number to the next are those at v
  edges_at : AllWithin (λ c. c.edge.p ≡ v) cs next next'
  edges_at k d l h = upto_same (get_or cs k d).edge.p v (step.begun k d l h) (upto_trans v (get_or cs next d).edge.p (get_or cs k d).edge.p (step.upto_edge d (omega (arith, l, h, step.next_inside)))
      (⊎_elim
      (λ s. starts_upto (get_or cs next d).edge (get_or cs k d).edge (ascending next k d s (omega (arith, h, step.next_inside))))
      (λ e. inl (ap (λ n. (get_or cs n d).edge.p) e))
      (le_cases next k l)))

  ends_are : AllWithin (λ q. q ≡ v) ends past past'
  ends_are k d l h = upto_same (get_or ends k d) v (step.ended k d l h) (upto_trans v (get_or ends past d) (get_or ends k d)
      (step.upto_end d (omega (arith, l, h, step.past_inside)))
      (upto_later ends sorted past k d l (omega (arith, h, step.past_inside))))

  v_among : IsAmong cs ends v
  v_among = ⊎_elim
      (λ e. inr (past, e.0, sym (e.1 v)))
      (λ e. let r = some_item cs next e.0 in let c = get_or cs next r in let P : Pt → Type 0 = Contains (firsts cs) in
      inl (subst P (sym (e.1 r)) (first_among cs c (next, e.0, get_or_default cs next c r e.0))))
      step.either

  -- so many ends are v
  ending : ends_at v ends ≡ past' - past
  ending = count_between (λ q. same_point q v) ends past past' step.past_later step.past_inside
      (λ k d l h. differs (get_or ends k d) v (λ e. before_itself v (let P : Pt → Type 0 = λ t. IsBefore t v in subst P e (ends_before k d l h))))
      (λ k d l h. same_point_of (get_or ends k d) v (ends_are k d l h))
      (λ k d l h. differs (get_or ends k d) v (λ e. before_itself v (let P : Pt → Type 0 = λ t. IsBefore v t in subst P e (step.others_past k d l h))))

  still_each : (k : ℕ) (u : Pt) → k < length (points ++ v ∷ []) → get_or (endings ++ ending_of (past' - past) ∷ []) k Other ≡ ending_of (ends_at (get_or (points ++ v ∷ []) k u) ends)
  still_each k u l = ⊎_elim
      (λ h. get_or_append_left endings (ending_of (past' - past) ∷ []) Other k (omega (arith, h, m.long)) ∙ m.each k u h ∙ ap ending_at (sym (get_or_append_left points (v ∷ []) u k h)))
      (λ h. let at : length points ≡ k = omega (arith, h, l, length_push points v) in get_or_push endings (ending_of (past' - past)) Other k (m.long ∙ at)
      ∙ ap ending_of (sym ending) ∙ ap ending_at (sym (get_or_push points v u k at)))
      (cases_lt k (length points))
    where
      ending_at : Pt → Ending
      ending_at w = ending_of (ends_at w ends)

  pub more_merged : (more : List Pt) (told : List Ending) → more ≡ points ++ v ∷ [] → told ≡ endings ++ ending_of (past' - past) ∷ [] → AreMergedTo cs ends more told next' past'
  more_merged more told are tell = subst (λ ps. AreMergedTo cs ends ps told next' past') (sym are) (subst (λ ts. AreMergedTo cs ends (points ++ v ∷ []) ts next' past') (sym tell) (record {
    next_within = step.next_inside;
    past_within = step.past_inside;
    ascending = all_pairs_push IsBefore points v m.ascending before_v;
    edges_left = let P : Pt → Type 0 = λ u. AllWithin (λ (c : Counted). IsBefore u c.edge.p) cs next' (length cs) in
        All-append P points (v ∷ []) (λ k d l j e h. m.edges_left k d l j e (omega (arith, h, step.next_later))) (All-cons P v [] step.edges_past (All-nil P));
    ends_left = let P : Pt → Type 0 = λ u. AllWithin (λ q. IsBefore u q) ends past' (length ends) in
        All-append P points (v ∷ []) (λ k d l j e h. m.ends_left k d l j e (omega (arith, h, step.past_later))) (All-cons P v [] step.others_past (All-nil P));
    begun = λ k d l h. ⊎_elim
        (λ s. Contains-append_left points (v ∷ []) (get_or cs k d).edge.p (m.begun k d l s))
        (λ s. let P : Pt → Type 0 = Contains (points ++ v ∷ []) in subst P (sym (edges_at k d s h)) (Contains-push points v))
        (cases_lt k next);
    ended = λ k d l h. ⊎_elim
        (λ s. Contains-append_left points (v ∷ []) (get_or ends k d) (m.ended k d l s))
        (λ s. let P : Pt → Type 0 = Contains (points ++ v ∷ []) in subst P (sym (ends_are k d s h)) (Contains-push points v))
        (cases_lt k past);
    among = All-append (IsAmong cs ends) points (v ∷ []) m.among (All-cons (IsAmong cs ends) v [] v_among (All-nil (IsAmong cs ends)));
    long = length_push endings (ending_of (past' - past)) ∙ ap (λ n. n + 1) m.long ∙ sym (length_push points v);
    each = still_each;
  }))

-- once no edge and no end is left, all are merged
pub all_merged : (cs : List Counted) (ends points : List Pt) (endings : List Ending) (next past : ℕ) → AreMergedTo cs ends points endings next past → length cs ≤ next → length ends ≤ past → AreMerged (firsts cs) ends points endings
all_merged cs ends points endings next past m begun ended = record {
  ascending = m.ascending;
  exact = λ v. ((λ h. All-contains (IsAmong cs ends) points v m.among h), ⊎_elim (first v) (end v));
  long = m.long;
  each = m.each;
}
  where
    first : (v : Pt) → Contains (firsts cs) v → Contains points v
    first v i =
        let k = in_map (λ (t : Counted). t.edge.p) cs v (contains_in (firsts cs) v i) in
        let h = in_contains cs k.0 k.1 in
        let P : Counted → Type 0 = λ t. Contains points t.edge.p in
        let Q : Pt → Type 0 = Contains points in
        subst Q k.2 (subst P h.2 (m.begun h.0 k.0 (omega arith) (omega (arith, h.1, begun))))

    end : (v : Pt) → Contains ends v → Contains points v
    end v h = let P : Pt → Type 0 = Contains points in subst P h.2 (m.ended h.0 v (omega arith) (omega (arith, h.1, ended)))
