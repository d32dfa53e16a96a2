-- Both ends of segments among the records: which they are, and that with them the records between the ends are all.
use Rattle.std.proofs.Common.{◌≡◌, ◌⊎◌, inl, inr, ℕ, zero, suc, ◌+◌, ◌-◌, ◌<◌, ◌≤◌, List, [], ◌∷◌, ◌++◌, Less, true, drop, length, take, refl, sym, ap, subst, ◌∙◌, arith, ⊎_elim, ◌↔◌}
use Rattle.std.proofs.Math.Seq.{take-add}
use Rattle.std.proofs.lemmas.Bool.{cases_lt}
use Rattle.std.proofs.lemmas.List.{append-nil, take_all}
use Rattle.std.proofs.lemmas.List.Elements.{Contains-append_cases, Contains-append_left, Contains-append_right, Contains-push, Contains-push_cases}
use Rattle.std.proofs.lemmas.Option.{slice_get_within}
use Rattle.std.specs.Prelude.{AllPairs, Contains, Some, pos, slice_get, slice_range}
use Rattle.geom.specs.declared.point.Pt.{Pt}
use Rattle.geom.specs.declared.segment.Seg.{Seg}
use Rattle.geom.proofs.Lists.{some_same}
use Rattle.geom.proofs.Points.{and_both}
use Rattle.grid.specs.Tiles.{Tiling, tile_count}
use Rattle.hot_region.proofs.CandidateLaws.{at_contains}
use Rattle.hot_region.proofs.HotLaws.{hot_meets}
use Rattle.hot_region.proofs.ListLaws.{from_cons, here, in_cons, in_filter, in_push, none_in}
use Rattle.routing.specs.declared.record.Record.{Record}
use Rattle.routing.specs.Pieces.{IsEnd, IsEndRecord, IsRecord}
use Rattle.routing.specs.Recording.{IsRecordAt}
use Rattle.routing.specs.Steps.{steps_to}
use Rattle.routing.proofs.PieceLaws.{hot_end, is_end_or_not, met_end}
use Rattle.linking.specs.Ends.{AddsEnds, IsEndBetween, ends_from, record_of}
use Rattle.linking.specs.Gathered.{HasInnerBelow}
use Rattle.linking.specs.Links.{HasRecords}
use Rattle.linking.specs.Orders.{AreSortedOnce, record_order}
use Rattle.linking.specs.Shares.{segment_of}
use Rattle.linking.specs.Spans.{is_below, is_from, is_in, within}
use Rattle.linking.specs.declared.span.Span.{Span}
use Rattle.linking.proofs.Gathering.{AreCovered, owner_below}
use Rattle.linking.proofs.SpanLaws.{and_yes}

-- ---- the records of both ends of all segments
-- r tells an end of one of the segments, which are numbered from k on
record IsEndFrom (k : ℕ) (ss : List Seg) (r : Record) : Type 0 where
  place : ℕ
  number_is : r.segment ≡ k + place
  s : Seg
  is_at : slice_get ss place ≡ Some s
  is_end : IsEnd s r.pixel
  steps_are : r.steps ≡ steps_to s r.pixel

at_first : (k n : ℕ) → k ≡ n → n ≡ k + 0
at_first k n e = omega arith

later : (k n j : ℕ) → n ≡ (k + 1) + j → n ≡ k + suc j
later k n j e = omega arith

earlier : (k n j : ℕ) → n ≡ k + suc j → n ≡ (k + 1) + j
earlier k n j e = omega arith

first_place : (k n : ℕ) → n ≡ k + 0 → k ≡ n
first_place k n e = omega arith

-- a record is that of an end, by its fields
same_record_of : (k : ℕ) (s : Seg) (c : Pt) (r : Record) → k ≡ r.segment → c ≡ r.pixel → r.steps ≡ steps_to s r.pixel → record_of k s c ≡ r
same_record_of k s c r e f g =
    let h : steps_to s c ≡ r.steps = ap (steps_to s) f ∙ sym g in
    λ i. record { segment = e i; steps = h i; pixel = f i }

to_end : (k : ℕ) (s : Seg) (ss : List Seg) (c : Pt) (r : Record) → IsEnd s c → record_of k s c ≡ r → IsEndFrom k (s ∷ ss) r
to_end k s ss c r is e = record {
  place = 0;
  number_is = at_first k r.segment (ap (λ (q : Record). q.segment) e);
  s = s;
  is_at = refl;
  is_end = subst (λ (p : Pt). IsEnd s p) (ap (λ (q : Record). q.pixel) e) is;
  steps_are = sym (ap (λ (q : Record). q.steps) e) ∙ ap (λ (q : Record). steps_to s q.pixel) e;
}

ends_to : (k : ℕ) (ss : List Seg) (r : Record) → Contains (ends_from k ss) r → IsEndFrom k ss r
ends_to k [] r h = absurd (none_in r h)
ends_to k (s ∷ ss) r h = ⊎_elim
    (λ e. to_end k s ss s.a r (inl refl) e)
    (λ g. ⊎_elim
    (λ e. to_end k s ss s.b r (inr refl) e)
    (λ rest. let f = ends_to (k + 1) ss r rest in record { place = suc f.place; number_is = later k r.segment f.place f.number_is; s = f.s; is_at = f.is_at; is_end = f.is_end; steps_are = f.steps_are })
    (from_cons (record_of k s s.b) (ends_from (k + 1) ss) r g))
    (from_cons (record_of k s s.a) (record_of k s s.b ∷ ends_from (k + 1) ss) r h)

ends_back : (k : ℕ) (ss : List Seg) (r : Record) (place : ℕ) (s : Seg) → r.segment ≡ k + place → slice_get ss place ≡ Some s → IsEnd s r.pixel → r.steps ≡ steps_to s r.pixel → Contains (ends_from k ss) r
ends_back k [] r place s n at is e = absurd (none_in s (at_contains [] place s at))
ends_back k (t ∷ ss) r zero s n at is e =
    let same : t ≡ s = some_same refl at in
    let steps : r.steps ≡ steps_to t r.pixel = e ∙ ap (λ (u : Seg). steps_to u r.pixel) (sym same) in
    ⊎_elim
    (λ a. subst (λ (q : Record). Contains (ends_from k (t ∷ ss)) q) (same_record_of k t t.a r (first_place k r.segment n) (ap (λ (u : Seg). u.a) same ∙ a) steps) (here (record_of k t t.a) (record_of k t t.b ∷ ends_from (k + 1) ss)))
    (λ b. subst (λ (q : Record). Contains (ends_from k (t ∷ ss)) q) (same_record_of k t t.b r (first_place k r.segment n) (ap (λ (u : Seg). u.b) same ∙ b) steps) (in_cons (record_of k t t.a) (record_of k t t.b ∷ ends_from (k + 1) ss) (record_of k t t.b) (here (record_of k t t.b) (ends_from (k + 1) ss))))
    is
ends_back k (t ∷ ss) r (suc place) s n at is e =
    in_cons (record_of k t t.a) (record_of k t t.b ∷ ends_from (k + 1) ss) r (in_cons (record_of k t t.b) (ends_from (k + 1) ss) r (ends_back (k + 1) ss r place s (earlier k r.segment place n) at is e))

pub ends_are : (segments : List Seg) (r : Record) → Contains (ends_from 0 segments) r ↔ IsEndRecord segments r
ends_are segments r = (
  (λ h. let f = ends_to 0 segments r h in record { s = f.s; is_at = subst (λ (n : ℕ). slice_get segments n ≡ Some f.s) (plain r.segment f.place f.number_is) f.is_at; is_end = f.is_end; steps_are = f.steps_are }),
  (λ h. ends_back 0 segments r r.segment h.s (itself r.segment) h.is_at h.is_end h.steps_are),
)
  where
    plain : (n k : ℕ) → n ≡ 0 + k → k ≡ n
    plain n k e = omega arith

    itself : (n : ℕ) → n ≡ 0 + n
    itself n = omega arith

-- ---- put between
pub slice_none : (list records : List Record) (from : ℕ) → list ≡ list ++ slice_range records from from
slice_none list records from = sym (ap (λ (n : ℕ). list ++ take n (drop from records)) (none from) ∙ append-nil list)
  where
    none : (n : ℕ) → n - n ≡ 0
    none n = omega arith

-- the records of both ends of one segment
module _ (segments : List Seg) (number : ℕ) (s : Seg) (at : slice_get segments number ≡ Some s) where
  -- a record at an end tells it
  tells_end : (c : Pt) (a : Record) → IsEnd s c → IsRecordAt segments number c a → IsEndRecord segments a
  tells_end c a is h = record {
    s = s;
    is_at = subst (λ (n : ℕ). slice_get segments n ≡ Some s) (sym h.numbered) at;
    is_end = subst (λ (p : Pt). IsEnd s p) (sym h.pixel_is) is;
    steps_are = h.steps_are ∙ ap (λ (t : Seg). steps_to t c) (some_same h.is_at at) ∙ ap (steps_to s) (sym h.pixel_is);
  }

  -- what tells the same end is the same record
  same_end : (c : Pt) (a r : Record) → IsRecordAt segments number c a → (h : IsEndRecord segments r) → r.segment ≡ number → c ≡ r.pixel → a ≡ r
  same_end c a r is h n e =
      let segment : a.segment ≡ r.segment = is.numbered ∙ sym n in
      let pixel : a.pixel ≡ r.pixel = is.pixel_is ∙ e in
      let whose : is.s ≡ h.s = some_same is.is_at (ap (slice_get segments) (sym n) ∙ h.is_at) in
      let steps : a.steps ≡ r.steps = is.steps_are ∙ ap (λ (t : Seg). steps_to t c) whose ∙ ap (steps_to h.s) e ∙ sym h.steps_are in
      λ i. record { segment = segment i; steps = steps i; pixel = pixel i }

  module _ (records list : List Record) (first place next : ℕ) (a b : Record) (start : IsRecordAt segments number s.a a) (end : IsRecordAt segments number s.b b) (from : first ≤ number) (onward : place ≤ next) where
    abbrev pub middle : List Record
    middle = (list ++ a ∷ []) ++ slice_range records place next

    up_to : take next records ≡ take place records ++ slice_range records place next
    up_to = ap (λ (n : ℕ). take n records) (sum place next onward) ∙ take-add place (next - place) records
      where
        sum : (p n : ℕ) → p ≤ n → n ≡ p + (n - p)
        sum p n l = omega arith

    here_between : (c : Pt) (q r : Record) → IsEnd s c → IsRecordAt segments number c q → q ≡ r → IsEndBetween segments first (number + 1) r
    here_between c q r is h e = subst (λ (z : Record). IsEndBetween segments first (number + 1) z) e (record { tells = tells_end c q is h; from = subst (λ (n : ℕ). first ≤ n) (sym h.numbered) from; to = subst (λ (n : ℕ). n < number + 1) (sym h.numbered) (last number) })
      where
        last : (n : ℕ) → n < n + 1
        last n = omega arith

    wider : (r : Record) → IsEndBetween segments first number r → IsEndBetween segments first (number + 1) r
    wider r h = record { tells = h.tells; from = h.from; to = weak r.segment number h.to }
      where
        weak : (m n : ℕ) → m < n → m < n + 1
        weak m n l = omega arith

    pub ends_more : (new : List Record) → new ≡ middle ++ b ∷ [] → AddsEnds segments first number (take place records) list → AddsEnds segments first (number + 1) (take next records) new
    ends_more new is h = record { same = λ r. (λ k. to r (subst (λ (rs : List Record). Contains rs r) is k), λ k. subst (λ (rs : List Record). Contains rs r) (sym is) (back r k)) }
      where
        in_front : (r : Record) → Contains (take place records) r → Contains (take next records) r
        in_front r k = subst (λ (rs : List Record). Contains rs r) (sym up_to) (Contains-append_left (take place records) (slice_range records place next) r k)

        behind : (r : Record) → Contains (slice_range records place next) r → Contains (take next records) r
        behind r k = subst (λ (rs : List Record). Contains rs r) (sym up_to) (Contains-append_right (take place records) (slice_range records place next) r k)

        to : (r : Record) → Contains (middle ++ b ∷ []) r → Contains (take next records) r ⊎ IsEndBetween segments first (number + 1) r
        to r k = ⊎_elim
            (λ m. ⊎_elim
            (λ n. ⊎_elim (λ o. ⊎_elim (λ p. inl (in_front r p)) (λ p. inr (wider r p)) ((h.same r).0 o)) (λ e. inr (here_between s.a a r (inl refl) start e)) (Contains-push_cases list a r n))
            (λ n. inl (behind r n))
            (Contains-append_cases (list ++ a ∷ []) (slice_range records place next) r m))
            (λ e. inr (here_between s.b b r (inr refl) end e))
            (Contains-push_cases middle b r k)

        left : (r : Record) → Contains list r → Contains (middle ++ b ∷ []) r
        left r k = in_push middle r b (Contains-append_left (list ++ a ∷ []) (slice_range records place next) r (in_push list r a k))

        own : (r : Record) → IsEndRecord segments r → r.segment ≡ number → Contains (middle ++ b ∷ []) r
        own r k n =
            let whose : k.s ≡ s = some_same (subst (λ (m : ℕ). slice_get segments m ≡ Some k.s) n k.is_at) at in
            ⊎_elim
            (λ e. subst (λ (z : Record). Contains (middle ++ b ∷ []) z) (same_end s.a a r start k n (sym (ap (λ (t : Seg). t.a) whose) ∙ e)) (in_push middle a b (Contains-append_left (list ++ a ∷ []) (slice_range records place next) a (Contains-push list a))))
            (λ e. subst (λ (z : Record). Contains (middle ++ b ∷ []) z) (same_end s.b b r end k n (sym (ap (λ (t : Seg). t.b) whose) ∙ e)) (Contains-push middle b))
            k.is_end

        back : (r : Record) → Contains (take next records) r ⊎ IsEndBetween segments first (number + 1) r → Contains (middle ++ b ∷ []) r
        back r (inl k) = ⊎_elim
            (λ m. left r ((h.same r).1 (inl m)))
            (λ m. in_push middle r b (Contains-append_right (list ++ a ∷ []) (slice_range records place next) r m))
            (Contains-append_cases (take place records) (slice_range records place next) r (subst (λ (rs : List Record). Contains rs r) up_to k))
        back r (inr k) = ⊎_elim
            (λ l. left r ((h.same r).1 (inr (record { tells = k.tells; from = k.from; to = l }))))
            (λ n. own r k.tells n)
            (which r.segment number k.to)
          where
            which : (m n : ℕ) → m < n + 1 → (m < n) ⊎ (m ≡ n)
            which m n l = ⊎_elim (λ a. inl a) (λ a. inr (omega arith)) (cases_lt m n)

pub ends_none : (segments : List Seg) (first : ℕ) (records : List Record) → AddsEnds segments first first (take 0 records) []
ends_none segments first records = record {
  same = λ r. (
    (λ k. absurd (none_in r k)),
    (λ k. ⊎_elim (λ m. m) (λ m. absurd (never first r.segment m.from m.to)) k),
  );
}
  where
    never : (m n : ℕ) → m ≤ n → n < m → ⊥
    never m n l h = omega arith

-- the records that are left stand behind
pub ends_last : (segments : List Seg) (first number past place : ℕ) (records list new : List Record) → place ≤ length records → past ≤ number → (number ≤ past) ⊎ (number ≡ first) → new ≡ list ++ slice_range records place (length records)
    → AddsEnds segments first number (take place records) list → AddsEnds segments first past records new
ends_last segments first number past place records list new l reached or is h = record { same = λ r. (λ k. to r (subst (λ (rs : List Record). Contains rs r) is k), λ k. subst (λ (rs : List Record). Contains rs r) (sym is) (back r k)) }
  where
    rest : List Record
    rest = slice_range records place (length records)

    whole : records ≡ take place records ++ rest
    whole = sym (take_all (length records) records (omega arith)) ∙ ap (λ (n : ℕ). take n records) (sum place (length records) l) ∙ take-add place (length records - place) records
      where
        sum : (p n : ℕ) → p ≤ n → n ≡ p + (n - p)
        sum p n l = omega arith

    narrower : (r : Record) → IsEndBetween segments first number r → IsEndBetween segments first past r
    narrower r k = record { tells = k.tells; from = k.from; to = ⊎_elim (λ m. less r.segment number past k.to m) (λ m. absurd (never r.segment number first k.from k.to m)) or }
      where
        less : (m n p : ℕ) → m < n → n ≤ p → m < p
        less m n p a b = omega arith

        never : (m n f : ℕ) → f ≤ m → m < n → n ≡ f → ⊥
        never m n f a b e = omega arith

    to : (r : Record) → Contains (list ++ rest) r → Contains records r ⊎ IsEndBetween segments first past r
    to r k = ⊎_elim
        (λ m. ⊎_elim (λ n. inl (subst (λ (rs : List Record). Contains rs r) (sym whole) (Contains-append_left (take place records) rest r n))) (λ n. inr (narrower r n)) ((h.same r).0 m))
        (λ m. inl (subst (λ (rs : List Record). Contains rs r) (sym whole) (Contains-append_right (take place records) rest r m)))
        (Contains-append_cases list rest r k)

    back : (r : Record) → Contains records r ⊎ IsEndBetween segments first past r → Contains (list ++ rest) r
    back r (inl k) = ⊎_elim
        (λ m. Contains-append_left list rest r ((h.same r).1 (inl m)))
        (λ m. Contains-append_right list rest r m)
        (Contains-append_cases (take place records) rest r (subst (λ (rs : List Record). Contains rs r) whole k))
    back r (inr k) = Contains-append_left list rest r ((h.same r).1 (inr (record { tells = k.tells; from = k.from; to = more r.segment past number k.to reached })))
      where
        more : (m p n : ℕ) → m < p → p ≤ n → m < n
        more m p n a b = omega arith

-- ---- a share
pub share_whole : (segments : List Seg) (found records list : List Record) (span : Span) (count first past : ℕ) → count ≡ length segments → ((k : ℕ) → k < count → (first ≤ k) ↔ (is_from span.from (pos k) ≡ true)) → ((k : ℕ) → k < count → (k < past) ↔ (is_below span.below (pos k) ≡ true))
    → AreSortedOnce (within segment_of span found) records → AllPairs (λ r q. record_order r q ≡ Less) list → AddsEnds segments first past records list → AreSortedOnce (within segment_of span (found ++ ends_from 0 segments)) list
share_whole segments found records list span count first past many from_is past_is once up h = record { ascending = up; same = λ r. (to r, back r) }
  where
    all : List Record
    all = found ++ ends_from 0 segments

    passes : Record → Type 0
    passes r = is_in span (segment_of r) ≡ true

    below : (r : Record) → IsEndRecord segments r → r.segment < count
    below r k = subst (λ (n : ℕ). r.segment < n) (sym many) (slice_get_within segments r.segment k.s k.is_at)

    to : (r : Record) → Contains list r → Contains (within segment_of span all) r
    to r k = ⊎_elim
        (λ m. let n = (in_filter (λ (q : Record). is_in span (segment_of q)) found r).0 ((once.same r).0 m) in (in_filter (λ (q : Record). is_in span (segment_of q)) all r).1 (Contains-append_left found (ends_from 0 segments) r n.0, n.1))
        (λ m. (in_filter (λ (q : Record). is_in span (segment_of q)) all r).1 (
          Contains-append_right found (ends_from 0 segments) r ((ends_are segments r).1 m.tells),
          and_yes (is_from span.from (segment_of r)) (is_below span.below (segment_of r)) ((from_is r.segment (below r m.tells)).0 m.from) ((past_is r.segment (below r m.tells)).0 m.to),
        ))
        ((h.same r).0 k)

    back : (r : Record) → Contains (within segment_of span all) r → Contains list r
    back r k =
        let (has, inside) = (in_filter (λ (q : Record). is_in span (segment_of q)) all r).0 k in
        let both = and_both (is_from span.from (segment_of r)) (is_below span.below (segment_of r)) inside in
        (h.same r).1 (⊎_elim
        (λ m. inl ((once.same r).1 ((in_filter (λ (q : Record). is_in span (segment_of q)) found r).1 (m, inside))))
        (λ m. let t = (ends_are segments r).0 m in inr (record { tells = t; from = (from_is r.segment (below r t)).1 both.0; to = (past_is r.segment (below r t)).1 both.1 }))
        (Contains-append_cases found (ends_from 0 segments) r has))

-- ---- all records
pub end_known : (segments : List Seg) (r : Record) → IsEndRecord segments r → IsRecord segments r
end_known segments r h = record { s = h.s; is_at = h.is_at; hot = hot_end segments h.s r.pixel (at_contains segments r.segment h.s h.is_at) h.is_end; met = met_end h.s r.pixel h.is_end; steps_are = h.steps_are }

-- the records between the ends in all tiles, and those of both ends, are those of all routes
pub tiles_and_ends : (g : Tiling) (segments : List Seg) (found : List Record) → AreCovered g segments → HasInnerBelow g segments (tile_count g) found → HasRecords segments (found ++ ends_from 0 segments)
tiles_and_ends g segments found covered all = record { exact = λ r. (to r, from r) }
  where
    to : (r : Record) → Contains (found ++ ends_from 0 segments) r → IsRecord segments r
    to r k = ⊎_elim (λ m. ((all.same r).0 m).0.known) (λ m. end_known segments r ((ends_are segments r).0 m)) (Contains-append_cases found (ends_from 0 segments) r k)

    from : (r : Record) → IsRecord segments r → Contains (found ++ ends_from 0 segments) r
    from r h = ⊎_elim
        (λ e. Contains-append_right found (ends_from 0 segments) r ((ends_are segments r).1 (record { s = h.s; is_at = h.is_at; is_end = e; steps_are = h.steps_are })))
        (λ n.
        let m = hot_meets segments r.pixel h.hot in
        let t = covered.tile m.0 r.pixel m.1 m.2 in
        Contains-append_left found (ends_from 0 segments) r ((all.same r).1 (record { known = h; inner = n }, (t.0, owner_below g t.0 r.pixel t.1, t.1))))
        (is_end_or_not h.s r.pixel)
