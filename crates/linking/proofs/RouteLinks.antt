-- Routes that are linked one behind another: their records are in order, and their links are those of neighbours.
use Rattle.std.proofs.Common.{◌≡◌, ◌≢◌, ◌⊎◌, ◌↔◌, inl, inr, true, ℕ, suc, ◌+◌, ◌-◌, ◌<◌, ◌≤◌, List, [], ◌∷◌, ◌++◌, Less, Equal, length, get_or, take, refl, sym, ap, subst, ◌∙◌, append_assoc, arith, ⊎_elim}
use Rattle.std.proofs.Math.IntN.{ℤ, pos, ◌-ℤ◌}
use Rattle.std.proofs.Math.Logic.{∥∥₁_elim, ∥∥₁_map}
use Rattle.std.proofs.Math.Seq.{take-append-add, take-append_seam}
use Rattle.std.proofs.Props.{props}
use Rattle.std.proofs.lemmas.Bool.{cases_lt}
use Rattle.std.proofs.lemmas.Int.{int_max_is, int_min_is, ints}
use Rattle.std.proofs.lemmas.List.{append-nil, get_or_append_left, get_or_default, get_or-append-add, get_or-take, length-append, length-set, length-take, length_push, take_all}
use Rattle.std.proofs.lemmas.List.Elements.{All-cons, All-contains, All-push, AllWithin-none, Contains-append_cases, Contains-get_or}
use Rattle.std.proofs.lemmas.List.Quantifiers.{all_pairs_push}
use Rattle.std.proofs.lemmas.Option.{slice_get_within}
use Rattle.std.specs.Int.{int_max, int_min}
use Rattle.std.specs.List.{AllWithin}
use Rattle.std.specs.Ordering.{nat_cmp}
use Rattle.std.specs.Prelude.{◌<ℤ◌, ◌≤ℤ◌, All, AllPairs, Contains, Err, Ok, OnOk, Result, Some, replicate, slice_get, slice_range, unsigned_abs}
use Rattle.geom.specs.declared.edge.Edge.{Edge}
use Rattle.geom.specs.declared.point.Pt.{Pt}
use Rattle.geom.specs.declared.segment.Seg.{Seg}
use Rattle.geom.specs.Route.{Meets}
use Rattle.geom.proofs.Along.{sized}
use Rattle.geom.proofs.Lists.{some_same}
use Rattle.geom.proofs.Meaning.{met_pixels_are_in_bounds}
use Rattle.geom.proofs.Points.{and_both}
use Rattle.grid.specs.Tiles.{Tiling, tile_count}
use Rattle.hot_region.proofs.ListLaws.{from_cons, in_filter, none_in, pairs_cons}
use Rattle.routing.specs.declared.record.Record.{Record}
use Rattle.routing.specs.Pieces.{IsEnd, IsEndRecord, IsInnerRecord, IsRecord}
use Rattle.routing.specs.Recording.{IsRecordAt}
use Rattle.routing.specs.Steps.{steps_to}
use Rattle.routing.proofs.PieceLaws.{met_end}
use Rattle.routing.proofs.RecordOrder.{record_less}
use Rattle.routing.proofs.StepLaws.{same_from_steps}
use Rattle.linking.specs.Ends.{record_of, route_of}
use Rattle.linking.specs.Links.{AreApart, AreNeighbourLinks, IsBetween, times_at}
use Rattle.linking.specs.Numbers.{AreTileCounts, CountsMore}
use Rattle.linking.specs.Orders.{AreSortedOnce, record_order}
use Rattle.linking.specs.Shares.{AddsRoute, AreInner, AreLinked, HasRoutes, segment_of}
use Rattle.linking.specs.Spans.{is_below, is_from, is_in, within}
use Rattle.linking.specs.declared.span.Span.{Span}
use Rattle.linking.proofs.Counted.{counted_none, counted_one, pairs_append, times_at_is}
use Rattle.linking.proofs.EndLaws.{end_known, ends_last, ends_more, ends_none, slice_none}
use Rattle.linking.proofs.LinkedLaws.{links_append, records_differ}
use Rattle.linking.proofs.ShareLaws.{segment_before}
use Rattle.linking.proofs.Slices.{slice_all, slice_has, slice_pairs}
use Rattle.linking.proofs.Walk.{walk_push}

-- what follows from both things that a call ensures where it has room
pub on_ok_both : {T E : Type 0} (r : Result T E) (P Q R : Type 0) → OnOk r P → OnOk r Q → (P → Q → R) → OnOk r R
on_ok_both (Ok x) P Q R p q f = f p q
on_ok_both (Err e) P Q R p q f = tt

-- ---- the order along a segment
step_before : (r q : Record) → r.segment ≡ q.segment → r.steps < q.steps → record_order r q ≡ Less
step_before r q e l = rw (tied r.segment q.segment e, lesser r.steps q.steps l) refl
  where
    tied : (a b : ℕ) → a ≡ b → nat_cmp a b ≡ Equal
    tied a b h = search (arith)

    lesser : (a b : ℕ) → a < b → nat_cmp a b ≡ Less
    lesser a b h = search (arith)

module _ (s : Seg) where
  steps_within : (c : Pt) → Meets s c → steps_to s c ≤ steps_to s s.b
  steps_within c met =
      let k = met_pixels_are_in_bounds s c met in
      let x = within s.a.x s.b.x c.x k.left k.right in
      let y = within s.a.y s.b.y c.y k.bottom k.top in
      omega (arith, x, y)
    where
      within : (a b c : ℤ) → int_min a b ≤ℤ c → c ≤ℤ int_max a b → unsigned_abs (c -ℤ a) ≤ unsigned_abs (b -ℤ a)
      within a b c h k = omega (arith, sized, int_min_is a b, int_max_is a b)

  none_at_start : steps_to s s.a ≡ 0
  none_at_start = let x = none s.a.x in let y = none s.a.y in omega (arith, x, y)
    where
      none : (a : ℤ) → unsigned_abs (a -ℤ a) ≡ 0
      none a = omega (arith, sized)

  after_first : (c : Pt) → Meets s c → s.a ≢ c → steps_to s s.a < steps_to s c
  after_first c met apart = elim (cases_lt (steps_to s s.a) (steps_to s c)) [
    | inl l ↦ l
    | inr l ↦ absurd (apart (same_from_steps s s.a c (met_end s s.a (inl refl)) met (let z = none_at_start in omega (arith, z, l))))
  ]

  before_last : (c : Pt) → Meets s c → s.b ≢ c → steps_to s c < steps_to s s.b
  before_last c met apart = elim (cases_lt (steps_to s c) (steps_to s s.b)) [
    | inl l ↦ l
    | inr l ↦ absurd (apart (sym (same_from_steps s c s.b met (met_end s s.b (inr refl)) (let w = steps_within c met in omega (arith, w, l)))))
  ]

-- ---- the records of a route
module _ (segments : List Seg) (number : ℕ) (s : Seg) (at : slice_get segments number ≡ Some s) where
  tells_end : (c : Pt) → IsEnd s c → IsEndRecord segments (record_of number s c)
  tells_end c is = record { s = s; is_at = at; is_end = is; steps_are = refl }

  module _ (r : Record) (own : r.segment ≡ number) (h : IsInnerRecord segments r) where
    whose : h.known.s ≡ s
    whose = some_same h.known.is_at (ap (slice_get segments) own ∙ at)

    met : Meets s r.pixel
    met = subst (λ (t : Seg). Meets t r.pixel) whose h.known.met

    steps : steps_to s r.pixel ≡ r.steps
    steps = sym (h.known.steps_are ∙ ap (λ (t : Seg). steps_to t r.pixel) whose)

    apart : IsEnd s r.pixel → ⊥
    apart e = h.inner (subst (λ (t : Seg). IsEnd t r.pixel) (sym whose) e)

    after_start : record_order (record_of number s s.a) r ≡ Less
    after_start = step_before (record_of number s s.a) r (sym own) (subst (λ (n : ℕ). steps_to s s.a < n) steps (after_first s r.pixel met (λ e. apart (inl e))))

    before_end : record_order r (record_of number s s.b) ≡ Less
    before_end = step_before r (record_of number s s.b) own (subst (λ (n : ℕ). n < steps_to s s.b) steps (before_last s r.pixel met (λ e. apart (inr e))))

  module _ (inner : List Record) (known : AreInner segments inner) (own : All (λ r. r.segment ≡ number) inner) where
    of_number : (r : Record) → Contains inner r → r.segment ≡ number
    of_number r k = All-contains (λ (q : Record). q.segment ≡ number) inner r own k

    pub route_known : (r : Record) → Contains (route_of number s inner) r → ∥ IsRecord segments r ∥₁
    route_known r k = ⊎_elim
        (λ e. ∣ subst (λ (q : Record). IsRecord segments q) e (end_known segments (record_of number s s.a) (tells_end s.a (inl refl))) ∣₁)
        (λ rest. ⊎_elim
        (λ m. ∥∥₁_map (known r m) (λ h. h.known))
        (λ m. ⊎_elim (λ e. ∣ subst (λ (q : Record). IsRecord segments q) e (end_known segments (record_of number s s.b) (tells_end s.b (inr refl))) ∣₁) (λ n. absurd (none_in r n)) (from_cons (record_of number s s.b) [] r m))
        (Contains-append_cases inner (record_of number s s.b ∷ []) r rest))
        (from_cons (record_of number s s.a) (inner ++ record_of number s s.b ∷ []) r k)

    pub route_up : AllPairs (λ r q. record_order r q ≡ Less) inner → AllPairs (λ r q. record_order r q ≡ Less) (route_of number s inner)
    route_up up = pairs_cons (λ r q. record_order r q ≡ Less) (record_of number s s.a) (inner ++ record_of number s s.b ∷ [])
        (λ r k. ⊎_elim
        (λ m. ∥∥₁_elim (known r m) (hlevel props) (λ h. after_start r (of_number r m) h))
        (λ m. ⊎_elim (λ e. subst (λ (q : Record). record_order (record_of number s s.a) q ≡ Less) e whole) (λ n. absurd (none_in r n)) (from_cons (record_of number s s.b) [] r m))
        (Contains-append_cases inner (record_of number s s.b ∷ []) r k))
        (all_pairs_push (λ r q. record_order r q ≡ Less) inner (record_of number s s.b) up
        (λ k d l. let r = get_or inner k d in let m = Contains-get_or inner k d l in ∥∥₁_elim (known r m) (hlevel props) (λ h. before_end r (of_number r m) h)))
      where
        whole : record_order (record_of number s s.a) (record_of number s s.b) ≡ Less
        whole = step_before (record_of number s s.a) (record_of number s s.b) refl (after_first s s.b (met_end s s.b (inr refl)) s.proper)

-- ---- one more record that is linked
pub counts_size : (g : Tiling) (p : Pt) (times : ℕ) (counts more : List ℕ) → CountsMore g p times counts more → length more ≡ length counts
counts_size g p times counts more h = ap length h.new_is ∙ length-set counts h.tile (h.count + times)

module _ {M L : Type 0} (g : Tiling) (link_of : M → Edge → L) (times_of : M → ℕ) (makers : List M) (records : List Record) (once : AllPairs (λ r q. r ≢ q) records) (i : ℕ) (end : Record) (high : i < length records) (end_is : end ≡ get_or records i end) where
  pub linked_step : (start : Record) → 1 ≤ i → start ≡ get_or records (i - 1) start → start.segment ≡ end.segment → (maker : M) → slice_get makers start.segment ≡ Some maker → (edge : Edge) → IsBetween edge start.pixel end.pixel → (links more_links : List L) (counts more_counts : List ℕ)
      → more_links ≡ links ++ link_of maker edge ∷ [] → CountsMore g end.pixel (times_of maker) counts more_counts → AreLinked g link_of times_of makers (take i records) links counts → AreLinked g link_of times_of makers (take (i + 1) records) more_links more_counts
  linked_step start low start_is same maker at edge between links more_links counts more_counts is one h = record {
    links_are = subst (λ (ls : List L). AreNeighbourLinks link_of makers (take (i + 1) records) ls) (sym is) (record {
      few =
          let a = length_push links (link_of maker edge) in
          let b = h.links_are.few in
          let c = length-take i records in
          let d = length-take (i + 1) records in
          omega (arith, a, b, c, d);
      count_is = λ e wanted test pass. walk_push link_of makers records links i start end low high start_is end_is e wanted test pass (h.links_are.count_is e wanted test pass) same maker at edge between (link_of maker edge) refl;
    });
    counts_are = counted_one g (λ r. r.pixel) (λ r. times_at times_of makers r.segment) records i end high end_is once counts more_counts (times_of maker) (sym (times_at_is times_of makers end.segment maker (ap (slice_get makers) (sym same) ∙ at))) one h.counts_are;
  }

-- ---- a route that is linked behind others
-- what is linked once so many of the route's records are
abbrev pub IsLinkedTo : {M L : Type 0} → Tiling → (M → Edge → L) → (M → ℕ) → List M → ℕ → Seg → List Record → ℕ → List L → List ℕ → List L → List ℕ → Type 0
IsLinkedTo g link_of times_of makers number s inner n links counts more_links more_counts =
    (before : List Record) → All (λ r. r.segment < number) before → AllPairs (λ r q. record_order r q ≡ Less) (before ++ route_of number s inner) → AreLinked g link_of times_of makers before links counts
    → AreLinked g link_of times_of makers (take (length before + n) (before ++ route_of number s inner)) more_links more_counts

-- the records of a route by their places
module _ (number : ℕ) (s : Seg) (inner : List Record) where
  pub route_long : length (route_of number s inner) ≡ length inner + 2
  route_long = let a = length_push inner (record_of number s s.b) in omega (arith, a)

  pub inner_at : (i : ℕ) (d e : Record) → i < length inner → get_or (route_of number s inner) (i + 1) d ≡ get_or inner i e
  inner_at i d e l = subst (λ (n : ℕ). get_or (route_of number s inner) n d ≡ get_or inner i e) (next i) (get_or_append_left inner (record_of number s s.b ∷ []) d i l ∙ get_or_default inner i d e l)
    where
      next : (n : ℕ) → suc n ≡ n + 1
      next n = omega arith

  pub last_at : (i : ℕ) (d : Record) → i ≡ length inner → get_or (route_of number s inner) (i + 1) d ≡ record_of number s s.b
  last_at i d e = subst (λ (n : ℕ). get_or (route_of number s inner) n d ≡ record_of number s s.b) (next i (length inner) e) (get_or-append-add inner (record_of number s s.b ∷ []) 0 d)
    where
      next : (n m : ℕ) → n ≡ m → suc (m + 0) ≡ n + 1
      next n m e = omega (arith, e)

module _ {M L : Type 0} (g : Tiling) (link_of : M → Edge → L) (times_of : M → ℕ) (makers : List M) (number : ℕ) (s : Seg) (inner : List Record) (own : All (λ r. r.segment ≡ number) inner) where
  abbrev first : Record
  first = record_of number s s.a

  abbrev route : List Record
  route = route_of number s inner

  abbrev IsTo : ℕ → List L → List ℕ → List L → List ℕ → Type 0
  IsTo n links counts more_links more_counts = IsLinkedTo g link_of times_of makers number s inner n links counts more_links more_counts

  pub route_own : All (λ r. r.segment ≡ number) route
  route_own = All-cons (λ (r : Record). r.segment ≡ number) first (inner ++ record_of number s s.b ∷ []) refl (All-push (λ (r : Record). r.segment ≡ number) inner (record_of number s s.b) own refl)

  of_route : (k : ℕ) (d : Record) → k < length route → (get_or route k d).segment ≡ number
  of_route k d l = route_own k d l

  pub first_linked : (maker : M) → slice_get makers number ≡ Some maker → (links : List L) (counts more_counts : List ℕ) → CountsMore g s.a (times_of maker) counts more_counts → IsTo 1 links counts links more_counts
  first_linked maker at links counts more_counts one before below up h = record {
    links_are = subst (λ (x : List Record × List L). AreNeighbourLinks link_of makers x.0 x.1) (λ j. (sym one_more j, append-nil links j)) (links_append link_of makers before (first ∷ []) links [] apart h.links_are (record { few = omega arith; count_is = λ e wanted test pass. refl }));
    counts_are = counted_one g (λ r. r.pixel) (λ r. times_at times_of makers r.segment) (before ++ route) (length before) first within first_is (records_differ (before ++ route) up) counts more_counts (times_of maker) (sym (times_at_is times_of makers number maker at)) one
        (subst (λ (rs : List Record). AreTileCounts g (λ (r : Record). r.pixel) (λ r. times_at times_of makers r.segment) rs counts) (sym (take-append_seam before route)) h.counts_are);
  }
    where
      one_more : take (length before + 1) (before ++ route) ≡ before ++ first ∷ []
      one_more = take-append-add before route 1

      within : length before < length (before ++ route)
      within = let n = length-append before route in omega (arith, n)

      first_is : first ≡ get_or (before ++ route) (length before) first
      first_is = sym (subst (λ (n : ℕ). get_or (before ++ route) n first ≡ first) (plain (length before)) (get_or-append-add before route 0 first))
        where
          plain : (n : ℕ) → n + 0 ≡ n
          plain n = omega arith

      apart : (r q : Record) → Contains before r → Contains (first ∷ []) q → pos r.segment <ℤ pos q.segment
      apart r q k m =
          let l : r.segment < number = All-contains (λ (p : Record). p.segment < number) before r below k in
          let e : first ≡ q = ⊎_elim (λ e. e) (λ n. absurd (none_in q n)) (from_cons first [] q m) in
          subst (λ (p : Record). pos r.segment <ℤ pos p.segment) e (let goal : pos r.segment <ℤ pos number = omega (arith, ints, l) in goal)

  -- two pixels that stand next to each other in the route
  module _ (n : ℕ) (more : n + 1 < length route) (c e : Pt) (c_is : c ≡ (get_or route n first).pixel) (e_is : e ≡ (get_or route (n + 1) first).pixel) where
    abbrev start : Record
    start = get_or route n first

    abbrev end : Record
    end = get_or route (n + 1) first

    less : n < length route
    less = omega (arith, more)

    pub pixels_apart : AreApart route → c ≢ e
    pixels_apart apart same = apart n (n + 1) first (omega arith) more (of_route n first less ∙ sym (of_route (n + 1) first more)) (sym c_is ∙ same ∙ e_is)

    pub next_linked : (edge : Edge) (maker : M) → slice_get makers number ≡ Some maker → IsBetween edge c e → (links old_links more_links : List L) (counts old_counts more_counts : List ℕ) → more_links ≡ old_links ++ link_of maker edge ∷ [] → CountsMore g e (times_of maker) old_counts more_counts
        → IsTo (n + 1) links counts old_links old_counts → IsTo (n + 1 + 1) links counts more_links more_counts
    next_linked edge maker at between links old_links more_links counts old_counts more_counts is one h before below up k =
        subst (λ (m : ℕ). AreLinked g link_of times_of makers (take m (before ++ route)) more_links more_counts) (onward (length before) n)
        (linked_step g link_of times_of makers (before ++ route) (records_differ (before ++ route) up) (length before + (n + 1)) end high end_is start (low (length before) n) start_is (of_route n first less ∙ sym (of_route (n + 1) first more)) maker
        (ap (slice_get makers) (of_route n first less) ∙ at) edge (subst (λ (x : Pt × Pt). IsBetween edge x.0 x.1) (λ j. (c_is j, e_is j)) between) old_links more_links old_counts more_counts is
        (subst (λ (p : Pt). CountsMore g p (times_of maker) old_counts more_counts) e_is one) (h before below up k))
      where
        onward : (b m : ℕ) → (b + (m + 1)) + 1 ≡ b + (m + 1 + 1)
        onward b m = omega arith

        low : (b m : ℕ) → 1 ≤ b + (m + 1)
        low b m = omega arith

        back : (b m : ℕ) → b + m ≡ (b + (m + 1)) - 1
        back b m = omega arith

        high : length before + (n + 1) < length (before ++ route)
        high = let l = length-append before route in omega (arith, l, more)

        end_is : end ≡ get_or (before ++ route) (length before + (n + 1)) end
        end_is = sym (get_or-append-add before route (n + 1) end ∙ get_or_default route (n + 1) end first more)

        start_is : start ≡ get_or (before ++ route) ((length before + (n + 1)) - 1) start
        start_is = sym (subst (λ (m : ℕ). get_or (before ++ route) m start ≡ start) (back (length before) n) (get_or-append-add before route n start ∙ get_or_default route n start first less))

  pub all_linked_to : (links more_links : List L) (counts more_counts : List ℕ) → IsTo (length route) links counts more_links more_counts → AddsRoute g link_of times_of makers number route links counts more_links more_counts
  all_linked_to links more_links counts more_counts h before below up k = subst (λ (rs : List Record). AreLinked g link_of times_of makers rs more_links more_counts) whole (h before below up k)
    where
      whole : take (length before + length route) (before ++ route) ≡ before ++ route
      whole = take_all (length before + length route) (before ++ route) (let l = length-append before route in omega (arith, l))

-- ---- the routes of one segment after another
-- what is linked of the segments from the first on, below a number, whose records stand before a place
pub record IsLinkedBelow {M L : Type 0} (g : Tiling) (link_of : M → Edge → L) (times_of : M → ℕ) (segments : List Seg) (makers : List M) (first : ℕ) (inner : List Record) (number place : ℕ) (links : List L) (counts : List ℕ) : Type 0 where
  pub within : place ≤ length inner
  pub from : first ≤ number
  pub before : AllWithin (λ r. r.segment < number) inner 0 place
  pub behind : AllWithin (λ r. number ≤ r.segment) inner place (length inner)
  pub routes : HasRoutes g link_of times_of segments makers first number (take place inner) links counts

module _ {M L : Type 0} (g : Tiling) (link_of : M → Edge → L) (times_of : M → ℕ) (segments : List Seg) (makers : List M) (first : ℕ) (inner : List Record) (up : AllPairs (λ r q. record_order r q ≡ Less) inner) where
  abbrev IsLinked : ℕ → ℕ → List L → List ℕ → Type 0
  IsLinked number place links counts = IsLinkedBelow g link_of times_of segments makers first inner number place links counts

  pub none_linked : (counts : List ℕ) → counts ≡ replicate (tile_count g) 0 → All (λ r. first ≤ r.segment) inner → IsLinked first 0 [] counts
  none_linked counts e h = record {
    within = omega arith;
    from = omega arith;
    before = AllWithin-none (λ r. r.segment < first) inner 0;
    behind = λ k d l m. h k d m;
    routes = record {
      records = [];
      ascending = λ i j d a b. absurd (omega (arith, b));
      has = ends_none segments first inner;
      linked = record { links_are = record { few = omega arith; count_is = λ e wanted test pass. refl }; counts_are = counted_none g (λ r. r.pixel) (λ r. times_at times_of makers r.segment) inner counts e };
    };
  }

  module _ (number place next : ℕ) (links : List L) (counts : List ℕ) (h : IsLinked number place links counts) (onward : place ≤ next) (within : next ≤ length inner) (up_to : AllWithin (λ r. r.segment ≤ number) inner place next) where
    pub own : All (λ r. r.segment ≡ number) (slice_range inner place next)
    own = slice_all inner place next within (λ (r : Record). r.segment ≡ number) (λ k d l m. let a = up_to k d l m in let b = h.behind k d l (omega (arith, m, within)) in omega (arith, a, b))

    module _ (past : (d : Record) → next < length inner → number < (get_or inner next d).segment) (known : AreInner segments inner) (s : Seg) (at : slice_get segments number ≡ Some s) where
      pub route_linked : (more_links : List L) (more_counts : List ℕ) → AddsRoute g link_of times_of makers number (route_of number s (slice_range inner place next)) links counts more_links more_counts → IsLinked (number + 1) next more_links more_counts
      route_linked more_links more_counts added = record {
        within = within;
        from = let f = h.from in omega (arith, f);
        before = λ k d l m. elim (cases_lt k place) [
          | inl b ↦ let a = h.before k d l b in omega (arith, a)
          | inr b ↦ let a = up_to k d b m in omega (arith, a)
        ];
        behind = λ k d l m. elim (cases_lt next k) [
          | inl b ↦ after k d b m
          | inr b ↦ let same : next ≡ k = omega (arith, l, b) in subst (λ (n : ℕ). number + 1 ≤ (get_or inner n d).segment) same (let a = past d (omega (arith, same, m)) in omega (arith, a))
        ];
        routes = record {
          records = earlier ++ route;
          ascending = ascending;
          has = ends_more segments number s at inner earlier first place next (record_of number s s.a) (record_of number s s.b) (own_record s.a) (own_record s.b) h.from onward (earlier ++ route) apart h.routes.has;
          linked = added earlier below ascending h.routes.linked;
        };
      }
        where
          between : List Record
          between = slice_range inner place next

          route : List Record
          route = route_of number s (slice_range inner place next)

          earlier : List Record
          earlier = h.routes.records

          after : (k : ℕ) (d : Record) → next < k → k < length inner → number + 1 ≤ (get_or inner k d).segment
          after k d l m =
              let a = past d (omega (arith, l, m)) in
              ⊎_elim (λ b. omega (arith, a, b)) (λ b. let e = b.0 in omega (arith, a, e)) (record_less (get_or inner next d) (get_or inner k d) (up next k d l m))

          own_record : (c : Pt) → IsRecordAt segments number c (record_of number s c)
          own_record c = record { s = s; is_at = at; numbered = refl; steps_are = refl; pixel_is = refl }

          apart : earlier ++ route ≡ ((earlier ++ record_of number s s.a ∷ []) ++ slice_range inner place next) ++ record_of number s s.b ∷ []
          apart = sym (append_assoc (earlier ++ record_of number s s.a ∷ []) (slice_range inner place next) (record_of number s s.b ∷ []) ∙ append_assoc earlier (record_of number s s.a ∷ []) (slice_range inner place next ++ record_of number s s.b ∷ []))

          is_below : (r : Record) → Contains earlier r → r.segment < number
          is_below r k = ⊎_elim in_front (λ e. e.to) ((h.routes.has.same r).0 k)
            where
              in_front : Contains (take place inner) r → r.segment < number
              in_front (m, l, e) =
                  let n = length-take place inner in
                  let b : m < place = omega (arith, l, n) in
                  subst (λ (q : Record). q.segment < number) (sym (get_or-take place inner m r b) ∙ e) (h.before m r (omega arith) b)

          below : All (λ r. r.segment < number) earlier
          below k d l = is_below (get_or earlier k d) (Contains-get_or earlier k d l)

          ascending : AllPairs (λ r q. record_order r q ≡ Less) (earlier ++ route)
          ascending = pairs_append (λ r q. record_order r q ≡ Less) earlier route h.routes.ascending
              (route_up segments number s at (slice_range inner place next) (λ r k. known r (slice_has inner place next within r k)) own (slice_pairs inner (λ r q. record_order r q ≡ Less) place next up))
              (λ r q k m. segment_before r q (let a = is_below r k in let b = All-contains (λ (p : Record). p.segment ≡ number) route q (route_own g link_of times_of makers number s (slice_range inner place next) own) m in omega (arith, ints, a, b)))

  pub last_linked : (past number place : ℕ) (links : List L) (counts : List ℕ) → past ≤ number → (number ≤ past) ⊎ (number ≡ first) → All (λ r. r.segment < past) inner → IsLinked number place links counts → HasRoutes g link_of times_of segments makers first past inner links counts
  last_linked past number place links counts reached or all h = record {
    records = h.routes.records;
    ascending = h.routes.ascending;
    has = ends_last segments first number past place inner h.routes.records h.routes.records h.within reached or none h.routes.has;
    linked = h.routes.linked;
  }
    where
      blank : Record
      blank = record { segment = 0; steps = 0; pixel = record { x = pos 0; y = pos 0 } }

      end : length inner ≡ place
      end = elim (cases_lt place (length inner)) [
        | inl l ↦ let a = h.behind place blank (omega arith) l in let b = all place blank l in absurd (omega (arith, a, b, reached))
        | inr l ↦ let w = h.within in omega (arith, l, w)
      ]

      none : h.routes.records ≡ h.routes.records ++ slice_range inner place (length inner)
      none = subst (λ (n : ℕ). h.routes.records ≡ h.routes.records ++ slice_range inner place n) (sym end) (slice_none h.routes.records inner place)

-- ---- a share of the segments
module _ (segments : List Seg) (found records : List Record) (span : Span) (first past : ℕ) (known : AreInner segments found) (from_is : (k : ℕ) → k < length segments → (first ≤ k) ↔ (is_from span.from (pos k) ≡ true)) (past_is : (k : ℕ) → k < length segments → (k < past) ↔ (is_below span.below (pos k) ≡ true))
    (once : AreSortedOnce (within segment_of span found) records) where
  in_share : (r : Record) → Contains records r → Contains found r × (is_in span (segment_of r) ≡ true)
  in_share r k = (in_filter (λ (q : Record). is_in span (segment_of q)) found r).0 ((once.same r).0 k)

  pub share_inner : AreInner segments records
  share_inner r k = known r (in_share r k).0

  pub share_within : All (λ r. (first ≤ r.segment) × (r.segment < past)) records
  share_within k d l =
      let r = get_or records k d in
      let m = Contains-get_or records k d l in
      let b : r.segment < length segments = ∥∥₁_elim (share_inner r m) (hlevel props) (λ h. slice_get_within segments r.segment h.known.s h.known.is_at) in
      let both = and_both (is_from span.from (segment_of r)) (is_below span.below (segment_of r)) (in_share r m).1 in
      ((from_is r.segment b).1 both.0, (past_is r.segment b).1 both.1)
