-- The records of a rectangle are those of its halves, and of the segments on its lines.
use Rattle.std.proofs.Common.{◌≡◌, ◌⊎◌, inl, inr, ℕ, ◌+◌, ◌<◌, ◌≤◌, List, [], ◌∷◌, ◌++◌, refl, sym, ◌∙◌, ap, arith, subst, length, get_or, take, ◌↔◌, ⊎_elim}
use Rattle.std.proofs.Math.IntN.{pos}
use Rattle.std.specs.Prelude.{All, AllPairs, Contains, Some, slice_get}
use Rattle.std.proofs.lemmas.Bool.{cases_lt}
use Rattle.std.proofs.lemmas.Option.{slice_get-get_or, get_or_from_slice_get, slice_get_within}
use Rattle.std.proofs.lemmas.List.Elements.{Contains-push, Contains-push_cases, Contains-get_or, Contains-append_left, Contains-append_right, Contains-append_cases}
use Rattle.geom.specs.declared.point.Pt.{Pt}
use Rattle.geom.specs.declared.rect.Rect.{Rect}
use Rattle.geom.specs.declared.edge.Edge.{Edge}
use Rattle.geom.specs.declared.segment.Seg.{Seg}
use Rattle.geom.specs.Determinant.{turn}
use Rattle.geom.specs.Hot.{IsHot}
use Rattle.geom.specs.Hot.IsHot.{start, end, crossing}
use Rattle.geom.specs.Limit.{InLimit, AreInLimit}
use Rattle.geom.specs.OnSegment.{IsOn}
use Rattle.geom.specs.Order.{IsBefore}
use Rattle.geom.specs.Pixel.{Point, pixel}
use Rattle.geom.proofs.Integers.{linear, expand}
use Rattle.geom.proofs.Meaning.{on_turned}
use Rattle.geom.proofs.Lists.{some_same}
use Rattle.hot_region.specs.Rects.{IsIn}
use Rattle.hot_region.specs.declared.lines.Line.{Line}
use Rattle.hot_region.specs.Candidates.{chosen, AreOwnedHot}
use Rattle.hot_region.specs.Lines.{IsLine, CrossAt}
use Rattle.hot_region.specs.Halving.{edges_of, IsEndOf, IsMetOn, IsHotFor, HasHot, HasHotInside, AreParts, AreReaching, IsPartInLimit}
use Rattle.hot_region.proofs.HotLaws.{hot_limit, met_limit}
use Rattle.hot_region.proofs.CandidateLaws.{in_chosen}
use Rattle.hot_region.proofs.CrossingLaws.{crossing_of, end_in, start_in, start_or_end}
use Rattle.hot_region.proofs.LineLaws.{cross_at, segment_of, segment_line}
use Rattle.hot_region.proofs.HalvingLaws.{hot_whole, hot_part, line_at, edge_in, met_on, end_met, first_met}
use Rattle.hot_region.proofs.ListLaws.{none_in, in_push, in_take_more}
use Rattle.routing.specs.declared.on_line.OnLine.{OnLine}
use Rattle.routing.specs.declared.record.Record.{Record}
use Rattle.routing.specs.declared.record.Candidate.{Candidate}
use Rattle.routing.specs.Found.{IsRecordOf, HasInnerRecords}
use Rattle.routing.specs.Pieces.{candidates_of, IsEnd}
use Rattle.routing.specs.Steps.{steps_to}
use Rattle.routing.specs.Cutting.{IsEndIn, IsPortion}
use Rattle.routing.specs.Recording.{IsCutTable, IsTable, AreLinesOf, IsCopy, IsRecordAt, IsRecordAlong, IsRecordOnOne, AddsAt, AddsAlong, AddsRecordsAt, AddsRecordsInside}
use Rattle.routing.proofs.PieceLaws.{in_candidates}

-- ---- the segments on one line, at one pixel
pub at_none : (segments : List Seg) (table : List OnLine) (first : ℕ) (pixel : Pt) (old : List Record) → AddsAt segments table first first pixel old old
at_none segments table first pixel old = record { same = λ r. (λ h. inl h, λ h. ⊎_elim (λ k. k) (λ k. absurd (let a = k.0.from in let b = k.0.to in omega arith)) h) }

wider : (segments : List Seg) (table : List OnLine) (first past more : ℕ) (r : Record) → past ≤ more → IsCopy segments table first past r → IsCopy segments table first more r
wider segments table first past more r l k = record { place = k.place; from = k.from; to = (let a = k.to in omega arith); x = k.x; entry = k.entry; s = k.s; is_at = k.is_at; numbered = k.numbered; steps_are = k.steps_are; inner = k.inner }

-- the pixel is no end of the segment of this number
abbrev pub IsInnerAt : List Seg → ℕ → Pt → Type 0
IsInnerAt segments number pixel = (s : Seg) → slice_get segments number ≡ Some s → ¬ (IsEnd s pixel)

-- one more place
pub at_more : (segments : List Seg) (table : List OnLine) (first place : ℕ) (pixel : Pt) (old list : List Record) (x : OnLine) (y : Record) → first ≤ place → slice_get table place ≡ Some x → IsRecordAt segments x.number pixel y
    → IsInnerAt segments x.number pixel → AddsAt segments table first place pixel old list → AddsAt segments table first (place + 1) pixel old (list ++ y ∷ [])
at_more segments table first place pixel old list x y l at is apart h = record { same = λ r. (to r, from r) }
  where
    own : IsCopy segments table first (place + 1) y
    own = record { place = place; from = l; to = omega arith; x = x; entry = at; s = is.s; is_at = is.is_at; numbered = is.numbered; steps_are = is.steps_are ∙ ap (steps_to is.s) (sym is.pixel_is); inner = λ e. apart is.s is.is_at (subst (λ (c : Pt). IsEnd is.s c) is.pixel_is e) }

    to : (r : Record) → Contains (list ++ y ∷ []) r → Contains old r ⊎ (IsCopy segments table first (place + 1) r × (pixel ≡ r.pixel))
    to r k = ⊎_elim
        (λ m. ⊎_elim (λ n. inl n) (λ n. inr (wider segments table first place (place + 1) r (omega arith) n.0, n.1)) ((h.same r).0 m))
        (λ m. inr (subst (λ (z : Record). IsCopy segments table first (place + 1) z) m own, sym is.pixel_is ∙ ap (λ (z : Record). z.pixel) m))
        (Contains-push_cases list y r k)

    from : (r : Record) → Contains old r ⊎ (IsCopy segments table first (place + 1) r × (pixel ≡ r.pixel)) → Contains (list ++ y ∷ []) r
    from r (inl k) = in_push list r y ((h.same r).1 (inl k))
    from r (inr (k, p)) = ⊎_elim
        (λ m. in_push list r y ((h.same r).1 (inr (record { place = k.place; from = k.from; to = m; x = k.x; entry = k.entry; s = k.s; is_at = k.is_at; numbered = k.numbered; steps_are = k.steps_are; inner = k.inner }, p))))
        (λ m.
        let q : k.place ≡ place = (let a = k.to in omega arith) in
        let u : x ≡ k.x = some_same at (ap (slice_get table) (sym q) ∙ k.entry) in
        let v : is.s ≡ k.s = some_same is.is_at (ap (λ (z : OnLine). slice_get segments z.number) u ∙ k.is_at) in
        let a : y.segment ≡ r.segment = is.numbered ∙ ap (λ (z : OnLine). z.number) u ∙ sym k.numbered in
        let b : y.pixel ≡ r.pixel = is.pixel_is ∙ p in
        let d : y.steps ≡ r.steps = is.steps_are ∙ ap (steps_to is.s) p ∙ ap (λ (t : Seg). steps_to t r.pixel) v ∙ sym k.steps_are in
        let whole : y ≡ r = λ j. record { segment = a j; steps = d j; pixel = b j } in
        subst (λ (z : Record). Contains (list ++ y ∷ []) z) whole (Contains-push list y))
        (cases_lt k.place place)

-- one more place, whose record is listed already
pub at_known : (segments : List Seg) (table : List OnLine) (first place : ℕ) (pixel : Pt) (old list : List Record) (x : OnLine) (y : Record) → first ≤ place → slice_get table place ≡ Some x → IsRecordAt segments x.number pixel y
    → IsInnerAt segments x.number pixel → Contains list y → AddsAt segments table first place pixel old list → AddsAt segments table first (place + 1) pixel old list
at_known segments table first place pixel old list x y l at is apart k h =
    let pushed = at_more segments table first place pixel old list x y l at is apart h in
    record {
      same = λ r. (
        (λ m. (pushed.same r).0 (in_push list r y m)),
        (λ m. ⊎_elim (λ n. n) (λ n. subst (λ (z : Record). Contains list z) n k) (Contains-push_cases list y r ((pushed.same r).1 m))),
      );
    }

-- one more place, of a segment of which the pixel is an end
pub at_end : (segments : List Seg) (table : List OnLine) (first place : ℕ) (pixel : Pt) (old list : List Record) (x : OnLine) (s : Seg) → slice_get table place ≡ Some x → slice_get segments x.number ≡ Some s → IsEnd s pixel
    → AddsAt segments table first place pixel old list → AddsAt segments table first (place + 1) pixel old list
at_end segments table first place pixel old list x s at is ends h = record { same = λ r. (to r, from r) }
  where
    to : (r : Record) → Contains list r → Contains old r ⊎ (IsCopy segments table first (place + 1) r × (pixel ≡ r.pixel))
    to r k = ⊎_elim (λ n. inl n) (λ n. inr (wider segments table first place (place + 1) r (omega arith) n.0, n.1)) ((h.same r).0 k)

    from : (r : Record) → Contains old r ⊎ (IsCopy segments table first (place + 1) r × (pixel ≡ r.pixel)) → Contains list r
    from r (inl k) = (h.same r).1 (inl k)
    from r (inr (k, p)) = ⊎_elim
        (λ m. (h.same r).1 (inr (record { place = k.place; from = k.from; to = m; x = k.x; entry = k.entry; s = k.s; is_at = k.is_at; numbered = k.numbered; steps_are = k.steps_are; inner = k.inner }, p)))
        (λ m.
        let q : k.place ≡ place = (let a = k.to in omega arith) in
        let u : x ≡ k.x = some_same at (ap (slice_get table) (sym q) ∙ k.entry) in
        let v : s ≡ k.s = some_same is (ap (λ (z : OnLine). slice_get segments z.number) u ∙ k.is_at) in
        absurd (k.inner (subst (λ (t : Seg). IsEnd t r.pixel) v (subst (λ (c : Pt). IsEnd s c) p ends))))
        (cases_lt k.place place)

-- no place is left
pub at_all : (segments : List Seg) (table : List OnLine) (first place past : ℕ) (pixel : Pt) (old new : List Record) → place ≡ past → AddsAt segments table first place pixel old new → AddsAt segments table first past pixel old new
at_all segments table first place past pixel old new e h = subst (λ (k : ℕ). AddsAt segments table first k pixel old new) e h

-- ---- lines, at pixels
pub lines_none : (segments : List Seg) (table : List OnLine) (pixels : List Pt) (old : List Record) → AddsRecordsAt segments table [] pixels old old
lines_none segments table pixels old = record { same = λ r. (λ h. inl h, λ h. ⊎_elim (λ k. k) (λ k. absurd (none_in k.0.line k.0.listed)) h) }

pub lines_more : (segments : List Seg) (table : List OnLine) (lines : List Line) (pixels : List Pt) (i : ℕ) (l : Line) (old list new : List Record) → i < length lines → l ≡ get_or lines i l → AddsRecordsAt segments table (take i lines) pixels old list → AddsAlong segments table l pixels list new → AddsRecordsAt segments table (take (i + 1) lines) pixels old new
lines_more segments table lines pixels i l old list new below is h g = record { same = λ r. (to r, from r) }
  where
    more : (x : Line) → Contains (take (i + 1) lines) x ↔ (Contains (take i lines) x ⊎ (l ≡ x))
    more x = in_take_more lines i l below is x

    to : (r : Record) → Contains new r → Contains old r ⊎ (IsRecordOnOne segments table (take (i + 1) lines) r × Contains pixels r.pixel)
    to r k = ⊎_elim
        (λ m. ⊎_elim (λ n. inl n) (λ n. inr (record { line = n.0.line; listed = (more n.0.line).1 (inl n.0.listed); along = n.0.along }, n.1)) ((h.same r).0 m))
        (λ m. inr (record { line = l; listed = (more l).1 (inr refl); along = m.0 }, m.1))
        ((g.same r).0 k)

    from : (r : Record) → Contains old r ⊎ (IsRecordOnOne segments table (take (i + 1) lines) r × Contains pixels r.pixel) → Contains new r
    from r (inl k) = (g.same r).1 (inl ((h.same r).1 (inl k)))
    from r (inr (k, at)) = ⊎_elim
        (λ m. (g.same r).1 (inl ((h.same r).1 (inr (record { line = k.line; listed = m; along = k.along }, at)))))
        (λ m. (g.same r).1 (inr (subst (λ (x : Line). IsRecordAlong segments table x r) (sym m) k.along, at)))
        ((more k.line).0 k.listed)

-- ---- two parts unite
pub records_unite : (segments : List Seg) (table : List OnLine) (Inside First Second : Pt → Type 0) (lines part rest : List Line) (old mid new : List Record) → AreParts Inside First Second → AreReaching First lines part → AreReaching Second lines rest → AddsRecordsInside segments table First part old mid → AddsRecordsInside segments table Second rest mid new → AddsRecordsInside segments table Inside lines old new
records_unite segments table Inside First Second lines part rest old mid new parts in_first in_second h g = record { same = λ r. (to r, from r) }
  where
    IsHere : (Pt → Type 0) → List Line → Record → Type 0
    IsHere Here some r = IsRecordOnOne segments table some r × IsHotFor (edges_of some) r.pixel × Here r.pixel

    widen : (Here : Pt → Type 0) (some : List Line) → AreReaching Here lines some → ((c : Pt) → Here c → Inside c) → (r : Record) → IsHere Here some r → IsHere Inside lines r
    widen Here some are inside r k = (record { line = k.0.line; listed = are.among k.0.line k.0.listed; along = k.0.along }, hot_whole Here lines some are r.pixel k.1, inside r.pixel k.2)

    narrow : (Here : Pt → Type 0) (some : List Line) → AreReaching Here lines some → (r : Record) → Here r.pixel → IsHere Inside lines r → IsHere Here some r
    narrow Here some are r t k = (record { line = k.0.line; listed = are.complete k.0.line r.pixel k.0.listed t k.0.along.met; along = k.0.along }, hot_part Here lines some are r.pixel t k.1, t)

    to : (r : Record) → Contains new r → Contains old r ⊎ IsHere Inside lines r
    to r k = ⊎_elim
        (λ m. ⊎_elim (λ n. inl n) (λ n. inr (widen First part in_first (λ c t. (parts.same c).1 (inl t)) r n)) ((h.same r).0 m))
        (λ n. inr (widen Second rest in_second (λ c t. (parts.same c).1 (inr t)) r n))
        ((g.same r).0 k)

    from : (r : Record) → Contains old r ⊎ IsHere Inside lines r → Contains new r
    from r k = ⊎_elim
        (λ m. (g.same r).1 (inl ((h.same r).1 (inl m))))
        (λ m. ⊎_elim
        (λ t. (g.same r).1 (inl ((h.same r).1 (inr (narrow First part in_first r t m)))))
        (λ t. (g.same r).1 (inr (narrow Second rest in_second r t m)))
        ((parts.same r.pixel).0 m.2))
        k

-- ---- by brute force
module _ (Inside : Pt → Type 0) (lines : List Line) (pixels : List Pt) (hot : HasHotInside Inside (edges_of lines) [] pixels) where
  hot_at : (c : Pt) → Contains pixels c → IsHotFor (edges_of lines) c × Inside c
  hot_at c k = ⊎_elim (λ m. absurd (none_in c m)) (λ m. m) ((hot.same c).0 k)

  pub records_all : (segments : List Seg) (table : List OnLine) (old list : List Record) → AddsRecordsAt segments table lines pixels old list → AddsRecordsInside segments table Inside lines old list
  records_all segments table old list h = record {
    same = λ r. (
      (λ k. ⊎_elim (λ m. inl m) (λ m. let t = hot_at r.pixel m.1 in inr (m.0, t.0, t.1)) ((h.same r).0 k)),
      (λ k. ⊎_elim (λ m. (h.same r).1 (inl m)) (λ m. (h.same r).1 (inr (m.0, (hot.same r.pixel).1 (inr (m.1, m.2))))) k),
    );
  }

  pub hot_added : (old all : List Pt) → all ≡ old ++ pixels → HasHotInside Inside (edges_of lines) old all
  hot_added old all h = record {
    same = λ c. (
      (λ k. ⊎_elim (λ m. inl m) (λ m. inr (hot_at c m)) (Contains-append_cases old pixels c (subst (λ (xs : List Pt). Contains xs c) h k))),
      (λ k. subst (λ (xs : List Pt). Contains xs c) (sym h) (⊎_elim (λ m. Contains-append_left old pixels c m) (λ m. Contains-append_right old pixels c ((hot.same c).1 (inr m))) k)),
    );
  }

  line_limit : (e : Edge) (c : Pt) → AreInLimit e.p e.q → IsMetOn e c → InLimit c
  unfolding segment_of
  line_limit e c l m = met_limit (segment_of e) c l (m.meets (segment_of e) (segment_line e))

  -- a pixel that is hot for lines is met by one of them
  hot_met : (c : Pt) → IsHotFor (edges_of lines) c → (e : Edge) × Contains (edges_of lines) e × IsMetOn e c
  hot_met c (inl k) = (k.e, k.listed, end_met k.e c k.is_end)
  hot_met c (inr k) = (k.e, k.e_listed, first_met k.e k.f c k.crosses)

  pub hot_within : All InLimit pixels
  hot_within = λ k d l. at (get_or pixels k d) (Contains-get_or pixels k d l)
    where
      at : (c : Pt) → Contains pixels c → InLimit c
      at c m =
          let r = hot_met c (hot_at c m).0 in
          let l = line_at lines r.0 r.1 in
          line_limit r.0 c (subst (λ (e : Edge). AreInLimit e.p e.q) l.2 l.0.in_limit) r.2

-- ---- the table
pub table_none : (segments : List Seg) → IsTable segments [] []
table_none segments = record { only = λ x h. absurd (none_in x h); all = λ k h. absurd (none_in k h) }

pub table_more : (segments : List Seg) (numbers : List ℕ) (i k : ℕ) (s : Seg) (x : OnLine) (list : List OnLine) → i < length numbers → k ≡ get_or numbers i k → slice_get segments k ≡ Some s → IsLine x.edge s → x.number ≡ k → IsTable segments (take i numbers) list → IsTable segments (take (i + 1) numbers) (list ++ x ∷ [])
table_more segments numbers i k s x list l is at on e h = record { only = only; all = all }
  where
    more : (n : ℕ) → Contains (take (i + 1) numbers) n ↔ (Contains (take i numbers) n ⊎ (k ≡ n))
    more n = in_take_more numbers i k l is n

    Tells : OnLine → Type 0
    Tells y = Contains (take (i + 1) numbers) y.number × ((t : Seg) × (slice_get segments y.number ≡ Some t) × IsLine y.edge t)

    only : (y : OnLine) → Contains (list ++ x ∷ []) y → Tells y
    only y m = ⊎_elim
        (λ n. let r = h.only y n in ((more y.number).1 (inl r.0), r.1))
        (λ n. subst (λ (z : OnLine). Tells z) n ((more x.number).1 (inr (sym e)), (s, ap (slice_get segments) e ∙ at, on)))
        (Contains-push_cases list x y m)

    all : (n : ℕ) → Contains (take (i + 1) numbers) n → (y : OnLine) × Contains (list ++ x ∷ []) y × (y.number ≡ n)
    all n m = ⊎_elim
        (λ o. let r = h.all n o in (r.0, in_push list r.0 x r.1, r.2))
        (λ o. (x, Contains-push list x, e ∙ o))
        ((more n).0 m)

-- a line of a segment within the limit
pub limit_of : (e : Edge) (s : Seg) → IsLine e s → AreInLimit s.a s.b → AreInLimit e.p e.q
limit_of e s (inl (a, b)) l = record { a_in = subst (λ (p : Pt). InLimit p) (sym a) l.a_in; b_in = subst (λ (p : Pt). InLimit p) (sym b) l.b_in }
limit_of e s (inr (a, b)) l = record { a_in = subst (λ (p : Pt). InLimit p) (sym a) l.b_in; b_in = subst (λ (p : Pt). InLimit p) (sym b) l.a_in }

-- ---- the lines of the table
-- the lines of the first places
pub record AreFirstLines (table : List OnLine) (place : ℕ) (lines : List Line) : Type 0 where
  pub reached : place ≤ length table
  pub within : (l : Line) → Contains lines l → l.past ≤ length table
  pub only : (l : Line) (k : ℕ) (x : OnLine) → Contains lines l → l.first ≤ k → k < l.past → slice_get table k ≡ Some x → x.edge ≡ l.edge
  pub some : (l : Line) → Contains lines l → (x : OnLine) × Contains table x × (x.edge ≡ l.edge)
  pub all : (k : ℕ) → k < place → (l : Line) × Contains lines l × (l.first ≤ k) × (k < l.past)

pub lines_first : (table : List OnLine) → AreFirstLines table 0 []
lines_first table = record { reached = omega arith; within = λ l h. absurd (none_in l h); only = λ l k x h a b e. absurd (none_in l h); some = λ l h. absurd (none_in l h); all = λ k h. absurd (omega arith) }

pub lines_next : (table : List OnLine) (first past : ℕ) (x : OnLine) (line : Line) (lines : List Line) → slice_get table first ≡ Some x → Contains table x → past ≤ length table → line.edge ≡ x.edge → line.first ≡ first → line.past ≡ past
    → ((k : ℕ) (a b : OnLine) → slice_get table first ≡ Some a → first ≤ k → k < past → slice_get table k ≡ Some b → b.edge ≡ a.edge) → AreFirstLines table first lines → AreFirstLines table past (lines ++ line ∷ [])
lines_next table first past x line lines at has l e f g alike h = record {
  reached = l;
  within = λ m k. ⊎_elim (λ o. h.within m o) (λ o. subst (λ (y : Line). y.past ≤ length table) o (subst (λ (n : ℕ). n ≤ length table) (sym g) l)) (Contains-push_cases lines line m k);
  only = λ m k y c a b d. ⊎_elim (λ o. h.only m k y o a b d) (λ o. own m k y o a b d) (Contains-push_cases lines line m c);
  some = λ m k. ⊎_elim (λ o. h.some m o) (λ o. (x, has, sym e ∙ ap (λ (y : Line). y.edge) o)) (Contains-push_cases lines line m k);
  all = λ k a. ⊎_elim
      (λ o. let r = h.all k o in (r.0, in_push lines r.0 line r.1, r.2, r.3))
      (λ o. (line, Contains-push lines line, subst (λ (n : ℕ). n ≤ k) (sym f) (omega arith), subst (λ (n : ℕ). k < n) (sym g) a))
      (cases_lt k first);
}
  where
    own : (m : Line) (k : ℕ) (y : OnLine) → line ≡ m → m.first ≤ k → k < m.past → slice_get table k ≡ Some y → y.edge ≡ m.edge
    own m k y o a b d =
        let u : m.first ≡ first = sym (ap (λ (z : Line). z.first) o) ∙ f in
        let v : m.past ≡ past = sym (ap (λ (z : Line). z.past) o) ∙ g in
        alike k x y at (omega arith) (omega arith) d ∙ sym e ∙ ap (λ (z : Line). z.edge) o

pub lines_whole : (table : List OnLine) (place : ℕ) (lines : List Line) → length table ≤ place → AreFirstLines table place lines → AreLinesOf table lines
lines_whole table place lines l h = record {
  within = λ k d b. h.within (get_or lines k d) (Contains-get_or lines k d b);
  only = h.only;
  some = h.some;
  all = λ k b. h.all k (omega arith);
}

-- ---- a tile
-- points of an edge, and of the segments on it
on_edge : (e : Edge) (s : Seg) (z : Point) → IsLine e s → IsOn s.a s.b z → IsOn e.p e.q z
on_edge e s z (inl (a, b)) h = subst (λ (p : Pt). IsOn p e.q z) (sym a) (subst (λ (q : Pt). IsOn s.a q z) (sym b) h)
on_edge e s z (inr (a, b)) h = subst (λ (p : Pt). IsOn p e.q z) (sym a) (subst (λ (q : Pt). IsOn s.b q z) (sym b) (on_turned s.a s.b z h))

met_at : (e : Edge) (c : Pt) → IsMetOn e c → (z : Point) × IsOn e.p e.q z × (pixel z ≡ c)
unfolding segment_of
met_at e c h = h.meets (segment_of e) (segment_line e)

at_met : (e : Edge) (c : Pt) (z : Point) → IsOn e.p e.q z → pixel z ≡ c → IsMetOn e c
unfolding segment_of
at_met e c z on is = met_on e (segment_of e) c (segment_line e) (z, on, is)

met_whole : (e f : Edge) (c : Pt) → IsPortion e f → IsMetOn f c → IsMetOn e c
met_whole e f c h m = let r = met_at f c m in at_met e c r.0 (h.inside r.0 r.1) r.2

exchanged_turn : (a b c d : Pt) → turn a b c d ≡ pos 0 → turn c d a b ≡ pos 0
exchanged_turn a b c d h = let u = simp expand at h in simp expand (omega (arith, linear))

-- portions are parallel where their edges are
parallel_portions : (e f g h : Edge) → IsPortion e g → IsPortion f h → (turn g.p g.q h.p h.q ≡ pos 0) ↔ (turn e.p e.q f.p f.q ≡ pos 0)
parallel_portions e f g h a b = (
  (λ t. exchanged_turn f.p f.q e.p e.q ((b.parallel e.p e.q).0 (exchanged_turn e.p e.q h.p h.q ((a.parallel h.p h.q).0 t)))),
  (λ t. (a.parallel h.p h.q).1 (exchanged_turn h.p h.q e.p e.q ((b.parallel e.p e.q).1 (exchanged_turn e.p e.q f.p f.q t)))),
)

cross_by : (e f : Edge) (c : Pt) (z : Point) → (turn e.p e.q f.p f.q ≡ pos 0 → ⊥) → IsOn e.p e.q z → IsOn f.p f.q z → pixel z ≡ c → CrossAt e f c
unfolding segment_of
cross_by e f c z apart on_e on_f is = cross_at e f (segment_of e) (segment_of f) c (segment_line e) (segment_line f) (record { not_parallel = apart; z = z; on_first = on_e; on_second = on_f; in_pixel = is })

cross_parts : (e f : Edge) (c : Pt) → CrossAt e f c → (turn e.p e.q f.p f.q ≡ pos 0 → ⊥) × ((z : Point) × IsOn e.p e.q z × IsOn f.p f.q z × (pixel z ≡ c))
unfolding segment_of
cross_parts e f c h = let x = crossing_of e f c h in (x.not_parallel, (x.z, x.on_first, x.on_second, x.in_pixel))

module _ (segments : List Seg) (numbers : List ℕ) (table : List OnLine) (lines : List Line) (is_cut : IsCutTable segments numbers table) (are : AreLinesOf table lines) where
  -- an entry's segment, and the edge that it has a portion of
  record HasSegment (x : OnLine) : Type 0 where
    s : Seg
    is_at : slice_get segments x.number ≡ Some s
    number : Contains numbers x.number
    edge : Edge
    on : IsLine edge s
    portion : IsPortion edge x.edge

  segment_at : (x : OnLine) → Contains table x → HasSegment x
  segment_at x h =
      let r = is_cut.are_cut.only x h in
      let q = is_cut.is_table.only r.whole r.listed in
      record { s = q.1.0; is_at = ap (slice_get segments) r.numbered ∙ q.1.1; number = subst (λ (n : ℕ). Contains numbers n) (sym r.numbered) q.0; edge = r.whole.edge; on = q.1.2; portion = r.portion }

  -- an end of an entry is one of a chosen segment
  end_hot : (c : Pt) → IsEndIn is_cut.whole c → IsHot (chosen segments numbers) c
  end_hot c h =
      let q = is_cut.is_table.only h.x h.listed in
      start_or_end (chosen segments numbers) h.x.edge q.1.0 c ((in_chosen segments numbers q.1.0).1 (h.x.number, q.0, q.1.1)) q.1.2 h.is_end

  -- a line's edge is that of an entry
  entry_on : (e : Edge) → Contains (edges_of lines) e → (x : OnLine) × Contains table x × (x.edge ≡ e)
  entry_on e h = let l = line_at lines e h in let x = are.some l.0 l.1 in (x.0, x.1, x.2 ∙ l.2)

  -- and an entry's edge is that of a line
  record HasLine (x : OnLine) : Type 0 where
    place : ℕ
    entry : slice_get table place ≡ Some x
    line : Line
    listed : Contains lines line
    from : line.first ≤ place
    to : place < line.past
    same : x.edge ≡ line.edge

  line_of : (x : OnLine) → Contains table x → HasLine x
  line_of x h =
      let l = are.all h.0 h.1 in
      let at : slice_get table h.0 ≡ Some x = slice_get-get_or table h.0 x h.1 ∙ ap Some h.2 in
      record { place = h.0; entry = at; line = l.0; listed = l.1; from = l.2; to = l.3; same = are.only l.0 h.0 x l.1 l.2 l.3 at }

  edge_listed : (x : OnLine) → Contains table x → Contains (edges_of lines) x.edge
  edge_listed x h = let l = line_of x h in subst (λ (e : Edge). Contains (edges_of lines) e) (sym l.same) (edge_in lines l.line l.listed)

  -- ---- hot pixels
  pub hot_of_portions : (c : Pt) → IsHotFor (edges_of lines) c → IsHot (chosen segments numbers) c
  hot_of_portions c (inl h) =
      let x = entry_on h.e h.listed in
      let r = is_cut.are_cut.only x.0 x.1 in
      end_hot c (⊎_elim
      (λ k. subst (λ (p : Pt). IsEndIn is_cut.whole p) (ap (λ (e : Edge). e.p) x.2 ∙ k) r.p_end)
      (λ k. subst (λ (p : Pt). IsEndIn is_cut.whole p) (ap (λ (e : Edge). e.q) x.2 ∙ k) r.q_end)
      h.is_end)
  hot_of_portions c (inr h) =
      let x = entry_on h.e h.e_listed in
      let y = entry_on h.f h.f_listed in
      let s = segment_at x.0 x.1 in
      let t = segment_at y.0 y.1 in
      let (apart, (z, on_e, on_f, is)) = cross_parts h.e h.f c h.crosses in
      let first : IsPortion s.edge h.e = subst (λ (e : Edge). IsPortion s.edge e) x.2 s.portion in
      let second : IsPortion t.edge h.f = subst (λ (e : Edge). IsPortion t.edge e) y.2 t.portion in
      let crosses = cross_by s.edge t.edge c z (λ k. apart ((parallel_portions s.edge t.edge h.e h.f first second).1 k)) (first.inside z on_e) (second.inside z on_f) is in
      crossing s.s t.s ((in_chosen segments numbers s.s).1 (x.0.number, s.number, s.is_at)) ((in_chosen segments numbers t.s).1 (y.0.number, t.number, t.is_at)) (crosses.cross s.s t.s s.on t.on)

  -- the whole edge of a chosen segment
  record HasEdge (s : Seg) : Type 0 where
    x : OnLine
    listed : Contains is_cut.whole x
    is_at : slice_get segments x.number ≡ Some s
    on : IsLine x.edge s

  edge_of_number : (k : ℕ) (s : Seg) → Contains numbers k → slice_get segments k ≡ Some s → (h : HasEdge s) × (h.x.number ≡ k)
  edge_of_number k s h at =
      let r = is_cut.is_table.all k h in
      let q = is_cut.is_table.only r.0 r.1 in
      let is : slice_get segments r.0.number ≡ Some s = ap (slice_get segments) r.2 ∙ at in
      (record { x = r.0; listed = r.1; is_at = is; on = subst (λ (t : Seg). IsLine r.0.edge t) (some_same q.1.1 is) q.1.2 }, r.2)

  end_of_portion : (w : OnLine) (c : Pt) → Contains is_cut.whole w → (w.edge.p ≡ c) ⊎ (w.edge.q ≡ c) → IsEndOf (edges_of lines) c
  end_of_portion w c h (inl k) = let r = is_cut.are_cut.first w h in record { e = r.0.edge; listed = edge_listed r.0 r.1; is_end = inl (r.2 ∙ k) }
  end_of_portion w c h (inr k) = let r = is_cut.are_cut.last w h in record { e = r.0.edge; listed = edge_listed r.0 r.1; is_end = inr (r.2 ∙ k) }

  -- an entry with a point of a segment
  record HasPoint (k : ℕ) (s : Seg) (z : Point) : Type 0 where
    y : OnLine
    listed : Contains table y
    numbered : y.number ≡ k
    on : IsOn y.edge.p y.edge.q z
    edge : Edge
    whole : IsLine edge s
    portion : IsPortion edge y.edge

  point_at : (k : ℕ) (s : Seg) (z : Point) → Contains numbers k → slice_get segments k ≡ Some s → IsOn s.a s.b z → HasPoint k s z
  point_at k s z h at on =
      let (w, is) = edge_of_number k s h at in
      let r = is_cut.are_cut.all w.x z w.listed (on_edge w.x.edge s z w.on on) in
      let t = segment_at r.0 r.1 in
      let n : r.0.number ≡ k = r.2 ∙ is in
      let same : t.s ≡ s = some_same t.is_at (ap (slice_get segments) n ∙ at) in
      record { y = r.0; listed = r.1; numbered = n; on = r.3; edge = t.edge; whole = subst (λ (u : Seg). IsLine t.edge u) same t.on; portion = t.portion }

  pub portions_of_hot : (c : Pt) → IsHot (chosen segments numbers) c → IsHotFor (edges_of lines) c
  portions_of_hot c (start s h k) =
      let r = (in_chosen segments numbers s).0 h in
      let w = (edge_of_number r.0 s r.1 r.2).0 in
      inl (end_of_portion w.x c w.listed (start_in w.x.edge s c w.on k))
  portions_of_hot c (end s h k) =
      let r = (in_chosen segments numbers s).0 h in
      let w = (edge_of_number r.0 s r.1 r.2).0 in
      inl (end_of_portion w.x c w.listed (end_in w.x.edge s c w.on k))
  portions_of_hot c (crossing s t h k x) =
      let r = (in_chosen segments numbers s).0 h in
      let q = (in_chosen segments numbers t).0 k in
      let a = point_at r.0 s x.z r.1 r.2 x.on_first in
      let b = point_at q.0 t x.z q.1 q.2 x.on_second in
      let apart = (cross_parts a.edge b.edge c (cross_at a.edge b.edge s t c a.whole b.whole x)).0 in
      inr (record {
        e = a.y.edge;
        f = b.y.edge;
        e_listed = edge_listed a.y a.listed;
        f_listed = edge_listed b.y b.listed;
        crosses = cross_by a.y.edge b.y.edge c x.z (λ n. apart ((parallel_portions a.edge b.edge a.y.edge b.y.edge a.portion b.portion).0 n)) a.on b.on x.in_pixel;
      })

  -- ---- limits
  pub entries_below : All (λ x. x.number < length segments) table
  entries_below = λ k d l. let x = get_or table k d in let t = segment_at x (Contains-get_or table k d l) in slice_get_within segments x.number t.s t.is_at

  -- ---- what is found
  module _ (tile part : Rect) (within : IsPartInLimit tile part) where
    pub tile_hot : (found pixels : List Pt) → ((s : Seg) → Contains (chosen segments numbers) s → AreInLimit s.a s.b) → HasHot part (edges_of lines) [] found → AllPairs IsBefore pixels → ((c : Pt) → Contains pixels c ↔ Contains found c) → AreOwnedHot (IsIn tile) (chosen segments numbers) pixels
    tile_hot found pixels limits h order same = record { ascending = order; exact = λ c. (to c, from c) }
      where
        to : (c : Pt) → Contains pixels c → IsHot (chosen segments numbers) c × IsIn tile c
        to c k = ⊎_elim (λ m. absurd (none_in c m)) (λ m. (hot_of_portions c m.0, within.only c m.1)) ((h.same c).0 ((same c).0 k))

        all_limits : All (λ s. AreInLimit s.a s.b) (chosen segments numbers)
        all_limits = λ k d l. limits (get_or (chosen segments numbers) k d) (Contains-get_or (chosen segments numbers) k d l)

        from : (c : Pt) → IsHot (chosen segments numbers) c × IsIn tile c → Contains pixels c
        from c k = (same c).1 ((h.same c).1 (inr (portions_of_hot c k.0, within.all c (hot_limit (chosen segments numbers) c all_limits k.0) k.1)))

    pub tile_records : (pixels : List Pt) (records : List Record) → AreOwnedHot (IsIn tile) (chosen segments numbers) pixels → ((c : Pt) → Contains pixels c → IsIn part c) → AddsRecordsInside segments table (IsIn part) lines [] records → HasInnerRecords (candidates_of segments numbers) pixels records
    tile_records pixels records hot inside h = record { same = λ r. (to r, from r) }
      where
        to : (r : Record) → Contains records r → ((c : Candidate) × Contains (candidates_of segments numbers) c × IsRecordOf c.number c.segment r × ¬ (IsEnd c.segment r.pixel)) × Contains pixels r.pixel
        to r m =
            let k = ⊎_elim (λ n. absurd (none_in r n)) (λ n. n) ((h.same r).0 m) in
            let copy = k.0.along.copy in
            let t = segment_at copy.x (copy.place, slice_get_within table copy.place copy.x copy.entry, get_or_from_slice_get table copy.place copy.x copy.x copy.entry) in
            let number : Contains numbers r.segment = subst (λ (n : ℕ). Contains numbers n) (sym copy.numbered) t.number in
            let at : slice_get segments r.segment ≡ Some copy.s = ap (slice_get segments) copy.numbered ∙ copy.is_at in
            let c : Candidate = record { number = r.segment; segment = copy.s } in
            let on : IsLine t.edge copy.s = subst (λ (u : Seg). IsLine t.edge u) (some_same t.is_at copy.is_at) t.on in
            let same : copy.x.edge ≡ k.0.line.edge = are.only k.0.line copy.place copy.x k.0.listed copy.from copy.to copy.entry in
            let met = met_whole t.edge copy.x.edge r.pixel t.portion (subst (λ (e : Edge). IsMetOn e r.pixel) (sym same) k.0.along.met) in (
              (c, (in_candidates segments numbers c).1 (number, at), record { numbered = refl; met = met.meets copy.s on; steps_are = copy.steps_are }, copy.inner),
              (hot.exact r.pixel).1 (hot_of_portions r.pixel k.1, within.only r.pixel k.2),
            )

        from : (r : Record) → ((c : Candidate) × Contains (candidates_of segments numbers) c × IsRecordOf c.number c.segment r × ¬ (IsEnd c.segment r.pixel)) × Contains pixels r.pixel → Contains records r
        from r ((c, k, of, inner), at) =
            let u = (in_candidates segments numbers c).0 k in
            let (z, on, is) = of.met in
            let b = point_at c.number c.segment z u.0 u.1 on in
            let l = line_of b.y b.listed in
            let is_at : slice_get segments b.y.number ≡ Some c.segment = ap (slice_get segments) b.numbered ∙ u.1 in
            let copy : IsCopy segments table l.line.first l.line.past r = record { place = l.place; from = l.from; to = l.to; x = b.y; entry = l.entry; s = c.segment; is_at = is_at; numbered = of.numbered ∙ sym b.numbered; steps_are = of.steps_are; inner = inner } in
            let met : IsMetOn l.line.edge r.pixel = subst (λ (e : Edge). IsMetOn e r.pixel) l.same (at_met b.y.edge r.pixel z b.on is) in
            (h.same r).1 (inr (record { line = l.line; listed = l.listed; along = record { copy = copy; met = met } }, portions_of_hot r.pixel ((hot.exact r.pixel).0 at).0, inside r.pixel at))

pub no_records : (segments : List Seg) (numbers : List ℕ) → HasInnerRecords (candidates_of segments numbers) [] []
no_records segments numbers = record { same = λ r. (λ h. absurd (none_in r h), λ h. absurd (none_in r.pixel h.1)) }

-- the same records under another name of what is inside
pub records_same : (segments : List Seg) (table : List OnLine) (Inside Other : Pt → Type 0) (lines : List Line) (old new : List Record) → ((c : Pt) → Inside c ↔ Other c) → AddsRecordsInside segments table Inside lines old new → AddsRecordsInside segments table Other lines old new
records_same segments table Inside Other lines old new alike h = record {
  same = λ r. (
    (λ k. ⊎_elim (λ m. inl m) (λ m. inr (m.0, m.1, (alike r.pixel).0 m.2)) ((h.same r).0 k)),
    (λ k. (h.same r).1 (⊎_elim (λ m. inl m) (λ m. inr (m.0, m.1, (alike r.pixel).1 m.2)) k)),
  );
}
