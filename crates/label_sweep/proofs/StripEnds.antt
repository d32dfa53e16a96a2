-- The second ends in a strip of columns, each as often as edges end there, and the vertices in the strip: these are its points among both ends.
use Rattle.std.proofs.Common.{◌≡◌, ◌⊎◌, inl, inr, ⊎_elim, ℕ, Bool, true, false, cond, ◌+◌, ◌-◌, ◌<◌, ◌≤◌, ◌↔◌, List, [], ◌∷◌, ◌++◌, drop, filter, length, get_or, map, slice_range, take, refl, sym, ap, ◌∙◌, subst, arith, int_le, Bor}
use Rattle.std.specs.List.{All, AllPairs, Contains, HoldsAt, count_by}
use Rattle.std.specs.List.Sorted.{IsPermutation}
use Rattle.std.specs.Prelude.{◌<ℤ◌, ◌≤ℤ◌, IsSomeAnd, IsTrue, MatchOption, None, Option, Some, if◌then◌else◌}
use Rattle.std.proofs.Math.IntN.{ℤ}
use Rattle.std.proofs.lemmas.Int.{ints}
use Rattle.std.proofs.lemmas.List.{get_or-map, get_or_default, length-map, take_all}
use Rattle.std.proofs.lemmas.List.Elements.{All-contains, filter_more, filter_passes}
use Rattle.std.proofs.lemmas.List.Sorted.{All-permutation, sum_by-IsPermutation}
use Rattle.std.proofs.lemmas.List.Sums.{sum_by-take-drop}
use Rattle.geom.specs.declared.point.Pt.{Pt}
use Rattle.geom.specs.declared.edge.Edge.{Edge}
use Rattle.geom.specs.declared.edge.Counted.{Counted}
use Rattle.geom.specs.EdgeOrder.{IsEdgeBefore}
use Rattle.geom.specs.Order.{IsUpTo}
use Rattle.geom.specs.Rounded.{edges_of}
use Rattle.geom.specs.Segments.{same_point}
use Rattle.geom.proofs.Lists.{In, contains_in, count-cons, counts_some, in_contains, in_map, map_in, some_passes}
use Rattle.geom.proofs.Points.{and_both, both_and, same_point_of, same_point_true}
use Rattle.geom.proofs.Tests.{le_told, le_yes, lt_told, lt_yes}
use Rattle.hands.specs.declared.part.Part.{Part}
use Rattle.label_sweep.specs.declared.second_ends.Columns.{Columns}
use Rattle.label_sweep.specs.declared.second_ends.Ending.{Ending}
use Rattle.label_sweep.specs.Column.{AreVerticesBetween, IsStrip, LiesBetween}
use Rattle.label_sweep.specs.Endings.{AreMerged, TellEndings, are_of, ending_of, is_left_of}
use Rattle.label_sweep.specs.Status.{IsVertexOf}
use Rattle.label_sweep.proofs.Borders.{clash}
use Rattle.label_sweep.proofs.Ends.{edge_among, le_cases, starts_upto}
use Rattle.label_sweep.proofs.Members.{part_in, within_drop, within_part}

-- the first and the second ends of edges
abbrev pub firsts : List Counted → List Pt
firsts cs = map (λ c. c.edge.p) cs

abbrev pub seconds : List Counted → List Pt
seconds cs = map (λ c. c.edge.q) cs

-- how many of some ends are v, and how many of some edges end there
abbrev pub ends_at : Pt → List Pt → ℕ
ends_at v ps = count_by (λ p. same_point p v) ps

abbrev pub edges_ending : Pt → List Edge → ℕ
edges_ending v es = count_by (λ e. same_point e.q v) es

-- ---- columns
le_same : {x : ℤ} → x ≤ℤ x
le_same {x} = omega (arith, ints)

not_back : {v x p q : ℤ} → v <ℤ x → x ≤ℤ p → p ≤ℤ q → q ≡ v → ⊥
not_back l m n e = omega (arith, ints, l, m, n, e)

upto_column : (p q : Pt) → IsUpTo p q → p.x ≤ℤ q.x
upto_column p q (inl e) = subst (λ (t : Pt). p.x ≤ℤ t.x) e le_same
upto_column p q (inr b) = b.column

-- x is the column where the edge with a number begins
pub record BeginsAt (cs : List Counted) (n : ℕ) (x : ℤ) : Type 0 where
  pub within : n < length cs
  pub one : Counted
  pub at : one ≡ get_or cs n one
  pub column : x ≡ one.edge.p.x

-- whichever edge stands where there is none
begins_at : (cs : List Counted) (n : ℕ) (x : ℤ) → BeginsAt cs n x → (d : Counted) → x ≡ (get_or cs n d).edge.p.x
begins_at cs n x b d = b.column ∙ ap (λ (t : Counted). t.edge.p.x) (b.at ∙ get_or_default cs n b.one d b.within)

-- x is the column behind a strip, if there is one
abbrev pub IsNext : List Counted → ℕ → Option ℤ → Type 0
IsNext cs past o = MatchOption o (length cs ≤ past) (BeginsAt cs past)

-- it is that of the edge that is read, if one is
pub next_is : (cs : List Counted) (past : ℕ) (read : Option (Bor Counted)) (o : Option ℤ) → MatchOption read (length cs ≤ past) (λ x. (past < length cs) × HoldsAt (λ c. x.now ≡ c) cs past)
    → MatchOption read (o ≡ None) (λ x. IsSomeAnd o (λ z. z ≡ x.now.edge.p.x)) → IsNext cs past o
next_is cs past None o l e = subst (IsNext cs past) (sym e) l
next_is cs past (Some x) None l e = absurd e
next_is cs past (Some x) (Some z) (l, is) e = record { within = l; one = x.now; at = is x.now; column = e }

-- what the test of a column says, and what makes it pass
left_told : (cs : List Counted) (past : ℕ) (o : Option ℤ) → IsNext cs past o → (x : ℤ) → is_left_of o x ≡ true → (d : Counted) → past < length cs → x <ℤ (get_or cs past d).edge.p.x
left_told cs past None n x t d l = absurd (omega (arith, n, l))
left_told cs past (Some y) n x t d l = subst (λ z. x <ℤ z) (begins_at cs past y n d) (lt_told x y t)

left_yes : (cs : List Counted) (past : ℕ) (o : Option ℤ) → IsNext cs past o → (x : ℤ) → ((d : Counted) → past < length cs → x <ℤ (get_or cs past d).edge.p.x) → is_left_of o x ≡ true
left_yes cs past None n x h = refl
left_yes cs past (Some y) n x h = lt_yes x y (subst (λ z. x <ℤ z) (sym (begins_at cs past y n n.one)) (h n.one n.within))

-- columns from that of one edge to before that of another one have the points that lie between
pub columns_are : (cs : List Counted) (from past : ℕ) (columns : Columns) → BeginsAt cs from columns.from → IsNext cs past columns.past → (v : Pt) → IsTrue (are_of columns v) ↔ LiesBetween cs from past v
columns_are cs from past columns first next v = (
  (λ t. let both = and_both (int_le columns.from v.x) (is_left_of columns.past v.x) t in record {
    from_edge = (first.within, λ d. subst (λ z. z ≤ℤ v.x) (begins_at cs from columns.from first d) (le_told columns.from v.x both.0));
    to_edge = left_told cs past columns.past next v.x both.1;
  }),
  (λ h. both_and (int_le columns.from v.x) (is_left_of columns.past v.x)
      (le_yes columns.from v.x (subst (λ z. z ≤ℤ v.x) (sym (begins_at cs from columns.from first first.one)) (h.from_edge.1 first.one)))
      (left_yes cs past columns.past next v.x h.to_edge)),
)

-- ---- the second ends as they are listed
module _ (columns : Columns) (cs : List Counted) where
  abbrev listed : ℕ → List Pt
  listed n = filter (are_of columns) (take n (seconds cs))

  -- one more edge adds its second end, if it lies in the columns
  pub more_listed : (n : ℕ) (c : Counted) → n < length cs → c ≡ get_or cs n c → (ends more : List Pt) → ends ≡ listed n → more ≡ ends ++ (if are_of columns c.edge.q then c.edge.q ∷ [] else []) → more ≡ listed (n + 1)
  more_listed n c l is ends more e f = f ∙ ap (λ ps. ps ++ added c.edge.q) e ∙ sym (filter_more (are_of columns) (seconds cs) n c.edge.q (omega (arith, l, length-map cs (λ (d : Counted). d.edge.q))) ∙ ap (λ q. listed n ++ added q) same)
    where
      added : Pt → List Pt
      added q = if are_of columns q then q ∷ [] else []

      same : get_or (seconds cs) n c.edge.q ≡ c.edge.q
      same = get_or-map (λ (d : Counted). d.edge.q) cs n c c.edge.q l ∙ ap (λ (d : Counted). d.edge.q) (sym is)

  -- past the last edge all are listed
  pub all_listed : (n : ℕ) → length cs ≤ n → listed n ≡ filter (are_of columns) (seconds cs)
  all_listed n l = ap (filter (are_of columns)) (take_all n (seconds cs) (omega (arith, l, length-map cs (λ (d : Counted). d.edge.q))))

-- ---- counts
not_yes : (b : Bool) → (b ≡ true → ⊥) → b ≡ false
not_yes true h = absurd (h refl)
not_yes false h = refl

not_both : (b : Bool) → b ≡ true → b ≡ false → ⊥
not_both b e f = absurd (cc)

-- items none of which passes are not counted
count_none : {X : Type 0} (p : X → Bool) (xs : List X) → ((x : X) → In x xs → p x ≡ false) → count_by p xs ≡ 0
count_none p xs h = none (λ l. let s = some_passes p xs l in not_both (p s.0) s.2 (h s.0 s.1))
  where
    none : (0 < count_by p xs → ⊥) → count_by p xs ≡ 0
    none k = omega arith

-- what a function gives is counted by what it is given
count_map : {X Y : Type 0} (p : Y → Bool) (f : X → Y) (xs : List X) → count_by p (map f xs) ≡ count_by (λ x. p (f x)) xs
count_map p f [] = refl
count_map p f (x ∷ xs) = count-cons p (f x) (map f xs) ∙ ap {B = ℕ} (λ n. cond (p (f x)) 1 0 + n) (count_map p f xs) ∙ sym (count-cons (λ y. p (f y)) x xs)

-- a filter that all counted items pass leaves their count
count_kept : {X : Type 0} (p q : X → Bool) → ((x : X) → q x ≡ true → p x ≡ true) → (xs : List X) → count_by q (filter p xs) ≡ count_by q xs
count_kept p q h [] = refl
count_kept {X} p q h (x ∷ xs) = by_test (p x) refl (count_kept p q h xs)
  where
    fails : {b : Bool} → b ≡ false → cond {A = ℕ} b 1 0 ≡ 0
    fails e = ap (λ (b : Bool). cond {A = ℕ} b 1 0) e

    by_test : (b : Bool) → p x ≡ b → count_by q (filter p xs) ≡ count_by q xs → count_by q (cond b (x ∷ filter p xs) (filter p xs)) ≡ count_by q (x ∷ xs)
    by_test true e i = count-cons q x (filter p xs) ∙ ap {B = ℕ} (λ n. cond (q x) 1 0 + n) i ∙ sym (count-cons q x xs)
    by_test false e i = let all = count-cons q x xs in let none = fails (not_yes (q x) (λ t. not_both (p x) (h x t) e)) in omega (arith, i, all, none)

-- where none passes behind a number, those before it have the count
count_front : {X : Type 0} (p : X → Bool) (xs : List X) (n : ℕ) → ((x : X) → In x (drop n xs) → p x ≡ false) → count_by p (take n xs) ≡ count_by p xs
count_front p xs n h = let all = sum_by-take-drop (λ x. cond (p x) 1 0) xs n in let none = count_none p (drop n xs) h in omega (arith, all, none)

-- ---- the second ends in a strip
module _ (cs : List Counted) (ascending : AllPairs (λ c d. IsEdgeBefore c.edge d.edge) cs) where
  -- the columns where edges begin rise
  rise : (i j : ℕ) (d : Counted) → i ≤ j → j < length cs → (get_or cs i d).edge.p.x ≤ℤ (get_or cs j d).edge.p.x
  rise i j d l m = ⊎_elim
      (λ k. upto_column (get_or cs i d).edge.p (get_or cs j d).edge.p (starts_upto (get_or cs i d).edge (get_or cs j d).edge (ascending i j d k m)))
      (λ e. subst (λ n. (get_or cs i d).edge.p.x ≤ℤ (get_or cs n d).edge.p.x) e le_same)
      (le_cases i j l)

  -- no edge that begins behind the strip ends in it
  behind : (from past : ℕ) (v : Pt) → LiesBetween cs from past v → (c : Counted) → In c (drop past cs) → same_point c.edge.q v ≡ false
  behind from past v h = within_drop (λ (c : Counted). same_point c.edge.q v ≡ false) cs past (λ k d l m. let c = get_or cs k d in
      not_yes (same_point c.edge.q v) (λ t. not_back (h.to_edge d (omega (arith, l, m))) (rise past k d l m) c.edge.ordered.column (ap (λ (p : Pt). p.x) (same_point_true c.edge.q v t))))

  -- what is listed of the edges before `past`, in any order
  module _ (from past : ℕ) (columns : Columns) (are : (v : Pt) → IsTrue (are_of columns v) ↔ LiesBetween cs from past v)
      (ends : List Pt) (moved : IsPermutation (filter (are_of columns) (seconds (take past cs))) ends) where
    pub ends_between : All (LiesBetween cs from past) ends
    ends_between = All-permutation (LiesBetween cs from past) (filter (are_of columns) (seconds (take past cs))) ends moved
        (λ k d l. (are (get_or (filter (are_of columns) (seconds (take past cs))) k d)).0 (filter_passes (are_of columns) (seconds (take past cs)) k d l))

    -- of all edges just those among them end at a point in the strip
    pub ends_each : (v : Pt) → LiesBetween cs from past v → ends_at v ends ≡ edges_ending v (edges_of cs)
    ends_each v h = sum_by-IsPermutation (λ p. cond (same_point p v) 1 0) (filter (are_of columns) (seconds (take past cs))) ends moved
        ∙ count_kept (are_of columns) (λ p. same_point p v) (λ p t. subst (λ (w : Pt). are_of columns w ≡ true) (sym (same_point_true p v t)) ((are v).1 h)) (seconds (take past cs))
        ∙ count_map (λ p. same_point p v) (λ (c : Counted). c.edge.q) (take past cs)
        ∙ count_front (λ (c : Counted). same_point c.edge.q v) cs past (behind from past v h)
        ∙ sym (count_map (λ (e : Edge). same_point e.q v) (λ (c : Counted). c.edge) cs)

  -- ---- the vertices in a strip
  module _ (strip : Part) (s : IsStrip cs strip) (some : strip.from < length cs) (ends : List Pt) (between : All (LiesBetween cs strip.from strip.past) ends)
      (each : (v : Pt) → LiesBetween cs strip.from strip.past v → ends_at v ends ≡ edges_ending v (edges_of cs)) where
    abbrev own : List Counted
    own = slice_range cs strip.from strip.past

    abbrev IsInside : Pt → Type 0
    IsInside v = IsVertexOf (edges_of cs) v × LiesBetween cs strip.from strip.past v

    -- the first ends of its edges are vertices in it
    first_inside : (v : Pt) → Contains (firsts own) v → IsInside v
    first_inside v h =
        let i = in_map (λ (c : Counted). c.edge.p) own v (contains_in (firsts own) v h) in
        let order = s.order in
        subst IsInside i.2 (within_part (λ (c : Counted). IsInside c.edge.p) cs strip.from (strip.past - strip.from) 0 (omega arith) (λ k d l m. here k d l (omega (arith, m, order))) i.0 i.1)
      where
        here : (k : ℕ) (d : Counted) → strip.from ≤ k → k < strip.past → IsInside (get_or cs k d).edge.p
        here k d l m =
            let c = get_or cs k d in
            let within = s.within in
            let n : k < length cs = omega (arith, m, within) in (
              record { edge = c.edge; inside = edge_among cs c (k, n, get_or_default cs k c d n); ends = inl refl },
              record {
                from_edge = (some, λ e. subst (λ (t : Counted). (get_or cs strip.from e).edge.p.x ≤ℤ t.edge.p.x) (get_or_default cs k e d n) (rise strip.from k e l n));
                to_edge = λ e b. s.next_column e b k d (omega arith) m;
              },
            )

    -- and so are the second ends
    second_inside : (v : Pt) → Contains ends v → IsInside v
    second_inside v h =
        let lies = All-contains (LiesBetween cs strip.from strip.past) ends v between h in
        let more = counts_some (λ p. same_point p v) ends v (contains_in ends v h) (same_point_of v v refl) in
        let e = some_passes (λ (e : Edge). same_point e.q v) (edges_of cs) (subst (λ n. 0 < n) (each v lies) more) in
        (record { edge = e.0; inside = in_contains (edges_of cs) e.0 e.1; ends = inr (sym (same_point_true e.0.q v e.2)) }, lies)

    -- an edge that begins in it is one of its own
    first_there : (c : Counted) → Contains cs c → LiesBetween cs strip.from strip.past c.edge.p → Contains (firsts own) c.edge.p
    first_there c i h =
        let low = no_less (λ l. clash (at_number (λ x. x <ℤ (get_or cs strip.from c).edge.p.x) (s.column c some i.0 c (omega arith) l)) (h.from_edge.1 c)) in
        let high = no_more (λ l. clash (h.to_edge c (omega (arith, l, i.1))) (at_number (λ x. (get_or cs strip.past c).edge.p.x ≤ℤ x) (rise strip.past i.0 c l i.1))) in
        let P : Counted → Type 0 = λ d. In d own in
        in_contains (firsts own) c.edge.p (map_in (λ (d : Counted). d.edge.p) own c (subst P i.2 (part_in cs strip.from (strip.past - strip.from) i.0 c low (omega (arith, low, high)) i.1)))
      where
        at_number : (P : ℤ → Type 0) → P (get_or cs i.0 c).edge.p.x → P c.edge.p.x
        at_number P p = subst (λ (d : Counted). P d.edge.p.x) i.2 p

        no_less : (i.0 < strip.from → ⊥) → strip.from ≤ i.0
        no_less k = omega arith

        no_more : (strip.past ≤ i.0 → ⊥) → i.0 < strip.past
        no_more k = omega arith

    -- a vertex in it is an end of the one or of the other kind
    vertex_there : (v : Pt) → IsInside v → Contains (firsts own) v ⊎ Contains ends v
    vertex_there v (x, h) = ⊎_elim (λ e. inl (first e)) (λ e. inr (second e)) x.ends
      where
        first : v ≡ x.edge.p → Contains (firsts own) v
        first e =
            let k = in_map (λ (c : Counted). c.edge) cs x.edge (contains_in (edges_of cs) x.edge x.inside) in
            let is : v ≡ k.0.edge.p = e ∙ ap (λ (f : Edge). f.p) (sym k.2) in
            subst (λ (w : Pt). Contains (firsts own) w) (sym is) (first_there k.0 (in_contains cs k.0 k.1) (subst (λ (w : Pt). LiesBetween cs strip.from strip.past w) is h))

        second : v ≡ x.edge.q → Contains ends v
        second e =
            let more = counts_some (λ (f : Edge). same_point f.q v) (edges_of cs) x.edge (contains_in (edges_of cs) x.edge x.inside) (same_point_of x.edge.q v (sym e)) in
            let p = some_passes (λ q. same_point q v) ends (subst (λ n. 0 < n) (sym (each v h)) more) in
            in_contains ends v (subst (λ (w : Pt). In w ends) (same_point_true p.0 v p.2) p.1)

    -- merged they are all vertices in it, each with how many edges end there
    module _ (points : List Pt) (endings : List Ending) (m : AreMerged (firsts own) ends points endings) where
      inside : (v : Pt) → Contains points v → IsInside v
      inside v h = ⊎_elim (first_inside v) (second_inside v) ((m.exact v).0 h)

      pub are_between : AreVerticesBetween cs strip.from strip.past points
      are_between = record {
        ascending = m.ascending;
        exact = λ v. (inside v, (λ h. (m.exact v).1 (vertex_there v h)));
      }

      pub endings_told : TellEndings (edges_of cs) points endings
      endings_told = record {
        long = m.long;
        each = λ k u l. let v = get_or points k u in m.each k u l ∙ ap ending_of (each v (inside v (k, l, get_or_default points k v u l)).1);
      }
