-- The records of a piece, as they are found.
use Rattle.std.proofs.Common.{◌≡◌, ◌⊎◌, inl, inr, ℕ, ◌+◌, ◌<◌, List, [], ◌∷◌, ◌++◌, Less, refl, sym, ◌∙◌, ap, arith, subst, length, get_or, take, ◌↔◌, ⊎_elim}
use Rattle.std.specs.Prelude.{Contains, Option, Some, None, slice_get}
use Rattle.std.proofs.lemmas.List.{take_more}
use Rattle.std.proofs.lemmas.List.Elements.{Contains-get_or, Contains-push, Contains-push_cases, filter_map-append}
use Rattle.std.proofs.lemmas.Option.{slice_get_within}
use Rattle.std.proofs.lemmas.Cmp.{tied_itself}
use Rattle.geom.specs.declared.point.Pt.{Pt}
use Rattle.geom.specs.declared.rect.Rect.{Rect}
use Rattle.geom.specs.declared.segment.Seg.{Seg}
use Rattle.geom.specs.Hot.{IsHot}
use Rattle.geom.specs.Hot.IsHot.{start, end}
use Rattle.geom.specs.Route.{Meets, IsEarlier}
use Rattle.hot_region.specs.Rects.{IsIn}
use Rattle.hot_region.specs.Candidates.{chosen, AreCandidates, AreOwnedHot}
use Rattle.hot_region.proofs.HotLaws.{meets_start, meets_end}
use Rattle.hot_region.proofs.ListLaws.{in_cons, in_push, in_take_more, from_cons, here, none_in}
use Rattle.geom.proofs.Orders.{IsSortedOnce}
use Rattle.geom.proofs.Same.{Same, decide_same, whole_path}
use Rattle.geom.proofs.Lists.{some_same}
use Rattle.hot_region.proofs.CandidateLaws.{in_chosen, owned_of_all, owned_by, hot_of_candidates, hot_from_candidates}
use Rattle.routing.specs.declared.record.Record.{Record}
use Rattle.routing.specs.declared.record.Candidate.{Candidate}
use Rattle.routing.specs.Steps.{steps_to}
use Rattle.routing.specs.Found.{HasInnerRecords, HasRecords, IsRecordOf}
use Rattle.routing.specs.Recording.{AddsEndAt, AddsEnds, IsRecordAt}
use Rattle.routing.specs.Pieces.{AreAllNumbers, candidate_at, candidates_of, segments_of, IsEnd, IsEndRecord, IsInnerRecord, IsRecord, IsAlong, IsPartOf, IsPieceOf, IsRecordIn, IsAlongIn, IsPiece}
use Rattle.routing.proofs.StepLaws.{earlier_from_steps, same_from_steps}
use Rattle.routing.proofs.RecordOrder.{record_cmp, record_total, record_less}

-- ---- the numbers of all segments
pub all_candidates : (segments : List Seg) (numbers : List ℕ) → AreAllNumbers segments numbers → (Owned : Pt → Type 0) → AreCandidates Owned segments numbers
all_candidates segments numbers are Owned =
    let size = are.size in
    record {
      ascending = λ k l. let a = are.each k 0 (omega (arith, l, size)) in let b = are.each (k + 1) 0 (omega (arith, l, size)) in omega (arith, a, b);
      below = λ k d l. let m : k < length segments = omega (arith, l, size) in subst (λ (n : ℕ). n < length segments) (sym (are.each k d m)) m;
      complete = λ k s c at met inside. let l = slice_get_within segments k s at in (k, omega (arith, l, size), are.each k k l);
    }

-- ---- candidates by their numbers
pub candidates_more : (segments : List Seg) (numbers : List ℕ) (i k : ℕ) (s : Seg) → i < length numbers → k ≡ get_or numbers i k → slice_get segments k ≡ Some s
    → candidates_of segments (take (i + 1) numbers) ≡ candidates_of segments (take i numbers) ++ (record { number = k; segment = s }) ∷ []
candidates_more segments numbers i k s l e h =
    let f : take (i + 1) numbers ≡ take i numbers ++ k ∷ [] = take_more numbers i k l ∙ ap (λ (n : ℕ). take i numbers ++ n ∷ []) (sym e) in
    ap (candidates_of segments) f ∙ filter_map-append (candidate_at segments) (take i numbers) (k ∷ []) ∙ ap (λ (cs : List Candidate). candidates_of segments (take i numbers) ++ cs) one
  where
    one : candidates_of segments (k ∷ []) ≡ (record { number = k; segment = s }) ∷ []
    one = rw h refl

segments_cons : (segments : List Seg) (n : ℕ) (ns : List ℕ) (o : Option Seg) → slice_get segments n ≡ o → segments_of (candidates_of segments ns) ≡ chosen segments ns → segments_of (candidates_of segments (n ∷ ns)) ≡ chosen segments (n ∷ ns)
segments_cons segments n ns None e rest = rw e rest
segments_cons segments n ns (Some s) e rest = rw e (ap (λ (ss : List Seg). s ∷ ss) rest)

pub same_segments : (segments : List Seg) (numbers : List ℕ) → segments_of (candidates_of segments numbers) ≡ chosen segments numbers
same_segments segments [] = refl
same_segments segments (n ∷ ns) = segments_cons segments n ns (slice_get segments n) refl (same_segments segments ns)

candidates_cons : (segments : List Seg) (k : ℕ) (ks : List ℕ) (o : Option Seg) → slice_get segments k ≡ o → (c : Candidate) → Contains (candidates_of segments (k ∷ ks)) c ↔ (((k ≡ c.number) × (o ≡ Some c.segment)) ⊎ Contains (candidates_of segments ks) c)
candidates_cons segments k ks None e c = rw e ((λ h. inr h), (λ h. ⊎_elim (λ f. absurd (let g = f.1 in cc)) (λ f. f) h))
candidates_cons segments k ks (Some t) e c = rw e (
  (λ h. ⊎_elim (λ f. inl (ap (λ (x : Candidate). x.number) f, ap (λ (x : Candidate). Some x.segment) f)) (λ f. inr f) (from_cons _ (candidates_of segments ks) c h)),
  (λ h. ⊎_elim (λ f. let a : k ≡ c.number = f.0 in let b : t ≡ c.segment = (let g = f.1 in cc) in let x : Candidate = record { number = k; segment = t } in let g : x ≡ c = λ i. record { number = a i; segment = b i } in subst (λ (y : Candidate). Contains (x ∷ candidates_of segments ks) y) g (here x (candidates_of segments ks))) (λ f. in_cons _ (candidates_of segments ks) c f) h),
)

-- a candidate is a segment with its number, which is listed
pub in_candidates : (segments : List Seg) (numbers : List ℕ) (c : Candidate) → Contains (candidates_of segments numbers) c ↔ (Contains numbers c.number × (slice_get segments c.number ≡ Some c.segment))
in_candidates segments [] c = (λ h. absurd (none_in c h), λ h. absurd (none_in c.number h.0))
in_candidates segments (n ∷ ns) c = (
  (λ h. ⊎_elim
      (λ f. (subst (λ (k : ℕ). Contains (n ∷ ns) k) f.0 (here n ns), ap (slice_get segments) (sym f.0) ∙ f.1))
      (λ f. let r = (in_candidates segments ns c).0 f in (in_cons n ns c.number r.0, r.1))
      ((candidates_cons segments n ns (slice_get segments n) refl c).0 h)),
  (λ h. (candidates_cons segments n ns (slice_get segments n) refl c).1 (⊎_elim (λ e. inl (e, ap (slice_get segments) e ∙ h.1)) (λ e. inr ((in_candidates segments ns c).1 (e, h.1))) (from_cons n ns c.number h.0))),
)

-- ---- with the ends in the tile
pub is_end_or_not : (s : Seg) (c : Pt) → IsEnd s c ⊎ ¬ (IsEnd s c)
is_end_or_not s c = ⊎_elim (λ a. inl (inl (whole_path a)))
    (λ n. ⊎_elim (λ b. inl (inr (whole_path b))) (λ m. inr (λ e. ⊎_elim (λ a. n (path_whole a)) (λ b. m (path_whole b)) e)) (decide_same s.b c))
    (decide_same s.a c)
  where
    path_whole : {p q : Pt} → p ≡ q → Same p q
    path_whole e = (ap (λ (z : Pt). z.x) e, ap (λ (z : Pt). z.y) e)

pub met_end : (s : Seg) (c : Pt) → IsEnd s c → Meets s c
met_end s c (inl e) = meets_start s c e
met_end s c (inr e) = meets_end s c e

pub hot_end : (segments : List Seg) (s : Seg) (c : Pt) → Contains segments s → IsEnd s c → IsHot segments c
hot_end segments s c h (inl e) = start s h e
hot_end segments s c h (inr e) = end s h e

pub end_pushed : (tile : Rect) (segments : List Seg) (number : ℕ) (pixel : Pt) (old : List Record) (y : Record) → IsIn tile pixel → IsRecordAt segments number pixel y → AddsEndAt tile segments number pixel old (old ++ y ∷ [])
end_pushed tile segments number pixel old y inside is = record {
  same = λ r. (
    (λ k. ⊎_elim (λ m. inl m) (λ m. inr (subst (λ (z : Record). IsRecordAt segments number pixel z) m is, inside)) (Contains-push_cases old y r k)),
    (λ k. ⊎_elim (λ m. in_push old r y m) (λ m. subst (λ (z : Record). Contains (old ++ y ∷ []) z) (whole r m.0) (Contains-push old y)) k),
  );
}
  where
    whole : (r : Record) → IsRecordAt segments number pixel r → y ≡ r
    whole r k =
        let a : y.segment ≡ r.segment = is.numbered ∙ sym k.numbered in
        let b : y.pixel ≡ r.pixel = is.pixel_is ∙ sym k.pixel_is in
        let d : y.steps ≡ r.steps = is.steps_are ∙ ap (λ (t : Seg). steps_to t pixel) (some_same is.is_at k.is_at) ∙ sym k.steps_are in
        λ i. record { segment = a i; steps = d i; pixel = b i }

pub end_outside : (tile : Rect) (segments : List Seg) (number : ℕ) (pixel : Pt) (old : List Record) → ¬ (IsIn tile pixel) → AddsEndAt tile segments number pixel old old
end_outside tile segments number pixel old outside = record { same = λ r. (λ k. inl k, λ k. ⊎_elim (λ m. m) (λ m. absurd (outside m.1)) k) }

pub ends_none : (tile : Rect) (segments : List Seg) (old : List Record) → AddsEnds tile segments [] old old
ends_none tile segments old = record { same = λ r. (λ k. inl k, λ k. ⊎_elim (λ m. m) (λ m. absurd (none_in r.segment m.1)) k) }

-- both ends of one more segment
pub ends_next : (tile : Rect) (segments : List Seg) (numbers : List ℕ) (i k : ℕ) (s : Seg) (first old mid new : List Record) → i < length numbers → k ≡ get_or numbers i k → slice_get segments k ≡ Some s
    → AddsEnds tile segments (take i numbers) first old → AddsEndAt tile segments k s.a old mid → AddsEndAt tile segments k s.b mid new → AddsEnds tile segments (take (i + 1) numbers) first new
ends_next tile segments numbers i k s first old mid new l is at h f g = record { same = λ r. (to r, from r) }
  where
    Tells : List ℕ → Record → Type 0
    Tells ns r = IsEndRecord segments r × Contains ns r.segment × IsIn tile r.pixel

    more : (n : ℕ) → Contains (take (i + 1) numbers) n ↔ (Contains (take i numbers) n ⊎ (k ≡ n))
    more n = in_take_more numbers i k l is n

    end_at : (c : Pt) (r : Record) → IsEnd s c → IsRecordAt segments k c r → IsIn tile c → Tells (take (i + 1) numbers) r
    end_at c r e is inside = (
      record {
        s = s;
        is_at = subst (λ (n : ℕ). slice_get segments n ≡ Some s) (sym is.numbered) at;
        is_end = subst (λ (p : Pt). IsEnd s p) (sym is.pixel_is) e;
        steps_are = is.steps_are ∙ ap (λ (t : Seg). steps_to t c) (some_same is.is_at at) ∙ ap (steps_to s) (sym is.pixel_is);
      },
      (more r.segment).1 (inr (sym is.numbered)),
      subst (λ (p : Pt). IsIn tile p) (sym is.pixel_is) inside,
    )

    to : (r : Record) → Contains new r → Contains first r ⊎ Tells (take (i + 1) numbers) r
    to r m = ⊎_elim
        (λ n. ⊎_elim (λ o. ⊎_elim (λ p. inl p) (λ p. inr (p.0, (more r.segment).1 (inl p.1), p.2)) ((h.same r).0 o)) (λ o. inr (end_at s.a r (inl refl) o.0 o.1)) ((f.same r).0 n))
        (λ n. inr (end_at s.b r (inr refl) n.0 n.1))
        ((g.same r).0 m)

    at_end : (c : Pt) (r : Record) → IsEndRecord segments r → k ≡ r.segment → c ≡ r.pixel → IsRecordAt segments k c r
    at_end c r e n p = record {
      s = e.s;
      is_at = subst (λ (m : ℕ). slice_get segments m ≡ Some e.s) (sym n) e.is_at;
      numbered = sym n;
      steps_are = e.steps_are ∙ ap (steps_to e.s) (sym p);
      pixel_is = sym p;
    }

    from : (r : Record) → Contains first r ⊎ Tells (take (i + 1) numbers) r → Contains new r
    from r (inl m) = (g.same r).1 (inl ((f.same r).1 (inl ((h.same r).1 (inl m)))))
    from r (inr (e, n, t)) = ⊎_elim
        (λ o. (g.same r).1 (inl ((f.same r).1 (inl ((h.same r).1 (inr (e, o, t)))))))
        (λ o.
        let whose : e.s ≡ s = some_same e.is_at (subst (λ (m : ℕ). slice_get segments m ≡ Some s) o at) in
        ⊎_elim
        (λ a. let p : s.a ≡ r.pixel = sym (ap (λ (u : Seg). u.a) whose) ∙ a in (g.same r).1 (inl ((f.same r).1 (inr (at_end s.a r e o p, subst (λ (c : Pt). IsIn tile c) (sym p) t)))))
        (λ b. let p : s.b ≡ r.pixel = sym (ap (λ (u : Seg). u.b) whose) ∙ b in (g.same r).1 (inr (at_end s.b r e o p, subst (λ (c : Pt). IsIn tile c) (sym p) t)))
        e.is_end)
        ((more r.segment).0 n)

pub all_found : (segments : List Seg) (numbers : List ℕ) (tile : Rect) (pixels : List Pt) (found records : List Record) → AreOwnedHot (IsIn tile) (chosen segments numbers) pixels → HasInnerRecords (candidates_of segments numbers) pixels found
    → AddsEnds tile segments numbers found records → HasRecords (candidates_of segments numbers) pixels records
all_found segments numbers tile pixels found records hot inner ends = record { same = λ r. (to r, from r) }
  where
    Tells : Record → Type 0
    Tells r = ((c : Candidate) × Contains (candidates_of segments numbers) c × IsRecordOf c.number c.segment r) × Contains pixels r.pixel

    to : (r : Record) → Contains records r → Tells r
    to r k = ⊎_elim
        (λ m. let ((c, has, of, apart), at) = (inner.same r).0 m in ((c, has, of), at))
        (λ (h, n, t). (
          (record { number = r.segment; segment = h.s }, (in_candidates segments numbers (record { number = r.segment; segment = h.s })).1 (n, h.is_at), record { numbered = refl; met = met_end h.s r.pixel h.is_end; steps_are = h.steps_are }),
          (hot.exact r.pixel).1 (hot_end (chosen segments numbers) h.s r.pixel ((in_chosen segments numbers h.s).1 (r.segment, n, h.is_at)) h.is_end, t),
        ))
        ((ends.same r).0 k)

    from : (r : Record) → Tells r → Contains records r
    from r ((c, has, of), at) = (ends.same r).1 (⊎_elim
        (λ e. inr (end_of e))
        (λ n. inl ((inner.same r).1 ((c, has, of, n), at)))
        (is_end_or_not c.segment r.pixel))
      where
        end_of : IsEnd c.segment r.pixel → IsEndRecord segments r × Contains numbers r.segment × IsIn tile r.pixel
        end_of e =
            let (n, is) = (in_candidates segments numbers c).0 has in
            let number : c.number ≡ r.segment = sym of.numbered in (
              record { s = c.segment; is_at = subst (λ (k : ℕ). slice_get segments k ≡ Some c.segment) number is; is_end = e; steps_are = of.steps_are },
              subst (λ (k : ℕ). Contains numbers k) number n,
              ((hot.exact r.pixel).0 at).1,
            )

-- ---- the piece that was made
module _ (segments : List Seg) (numbers : List ℕ) (tile : Rect) (pixels : List Pt) (found records : List Record) (hot : AreOwnedHot (IsIn tile) (chosen segments numbers) pixels) (all : HasRecords (candidates_of segments numbers) pixels found) (once : IsSortedOnce record_cmp found records) where
  candidates : List Candidate
  candidates = candidates_of segments numbers

  hot_here : AreOwnedHot (IsIn tile) (segments_of (candidates_of segments numbers)) pixels
  hot_here = subst (λ (ss : List Seg). AreOwnedHot (IsIn tile) ss pixels) (sym (same_segments segments numbers)) hot

  to : (r : Record) → Contains records r → IsRecordIn tile (candidates_of segments numbers) r
  to r k =
      let ((c, m, of), at) = (all.same r).0 ((once.same r).0 k) in
      let (h, t) = (hot_here.exact r.pixel).0 at in
      let same : c ≡ (record { number = r.segment; segment = c.segment }) = (let n : c.number ≡ r.segment = sym of.numbered in λ i. record { number = n i; segment = c.segment }) in
      record { s = c.segment; listed = subst (λ (x : Candidate). Contains (candidates_of segments numbers) x) same m; hot = h; met = of.met; in_tile = t; steps_are = of.steps_are }

  from : (r : Record) → IsRecordIn tile (candidates_of segments numbers) r → Contains records r
  from r h = (once.same r).1 ((all.same r).1 ((record { number = r.segment; segment = h.s }, h.listed, record { numbered = refl; met = h.met; steps_are = h.steps_are }), (hot_here.exact r.pixel).1 (h.hot, h.in_tile)))

  at : (k : ℕ) (s : Seg) → Contains (candidates_of segments numbers) (record { number = k; segment = s }) → slice_get segments k ≡ Some s
  at k s h = ((in_candidates segments numbers (record { number = k; segment = s })).0 h).1

  -- two records of one segment
  along : (r q : Record) → IsRecordIn tile (candidates_of segments numbers) r → IsRecordIn tile (candidates_of segments numbers) q → record_cmp r q ≡ Less → IsAlongIn (candidates_of segments numbers) r q
  along r q h k less = ⊎_elim (λ l. inl l) (λ l. inr (l.0, λ s listed. step s (some_same (at r.segment h.s h.listed) (at r.segment s listed)) (some_same (at q.segment k.s k.listed) (ap (slice_get segments) (sym l.0) ∙ at r.segment s listed)) l.0 l.1)) (record_less r q less)
    where
      step : (s : Seg) → h.s ≡ s → k.s ≡ s → r.segment ≡ q.segment → (r.steps < q.steps) ⊎ (r.steps ≡ q.steps) → IsEarlier s r.pixel q.pixel
      step s e f n l =
          let hm : Meets s r.pixel = subst (λ (u : Seg). Meets u r.pixel) e h.met in
          let km : Meets s q.pixel = subst (λ (u : Seg). Meets u q.pixel) f k.met in
          let hs : r.steps ≡ steps_to s r.pixel = h.steps_are ∙ ap (λ (u : Seg). steps_to u r.pixel) e in
          let ks : q.steps ≡ steps_to s q.pixel = k.steps_are ∙ ap (λ (u : Seg). steps_to u q.pixel) f in
          ⊎_elim
          (λ m. earlier_from_steps s r.pixel q.pixel hm km (below hs ks m))
          (λ m. absurd (
          let p : r.pixel ≡ q.pixel = same_from_steps s r.pixel q.pixel hm km (sym hs ∙ m ∙ ks) in
          let whole : r ≡ q = λ i. record { segment = n i; steps = m i; pixel = p i } in
          let o = tied_itself record_total q in
          let z : record_cmp q q ≡ Less = subst (λ (x : Record). record_cmp x q ≡ Less) whole less in
          cc
          ))
          l
        where
          below : {a b c d : ℕ} → a ≡ c → b ≡ d → a < b → c < d
          below {a} {b} {c} {d} e f l = omega arith

  pub piece_is : (n : ℕ) → n ≡ length pixels → IsPiece tile (candidates_of segments numbers) n records
  piece_is n e = record {
    pixels = pixels;
    are_hot = hot_here;
    hot_is = e;
    ordered = λ i j d a b. along (get_or records i d) (get_or records j d) (to _ (Contains-get_or records i d (omega arith))) (to _ (Contains-get_or records j d b)) (once.ascending i j d a b);
    exact = λ r. (to r, from r);
  }

-- ---- a piece of candidates that leave out no segment is that of all segments
pub piece_of_all : (Owned : Pt → Type 0) (segments : List Seg) (numbers : List ℕ) (tile : Rect) (candidates : List Candidate) (hot : ℕ) (records : List Record)
    → ((c : Pt) → IsIn tile c ↔ Owned c) → AreCandidates Owned segments numbers → candidates ≡ candidates_of segments numbers → IsPiece tile candidates hot records → IsPieceOf Owned segments hot records
piece_of_all Owned segments numbers tile candidates hot records same are is h = record {
  pixels = h.pixels;
  are_hot = owned_of_all Owned segments numbers h.pixels are (owned_by (IsIn tile) Owned (chosen segments numbers) h.pixels same (subst (λ (ss : List Seg). AreOwnedHot (IsIn tile) ss h.pixels) segs h.are_hot));
  hot_is = h.hot_is;
  ordered = λ i j d a b. along (get_or records i d) (get_or records j d) ((h.exact _).0 (Contains-get_or records i d (omega arith))) (h.ordered i j d a b);
  exact = λ r. (to r, from r);
}
  where
    segs : segments_of candidates ≡ chosen segments numbers
    segs = ap segments_of is ∙ same_segments segments numbers

    into : (k : ℕ) (s : Seg) → Contains numbers k → slice_get segments k ≡ Some s → Contains candidates (record { number = k; segment = s })
    into k s c e = subst (λ (cs : List Candidate). Contains cs (record { number = k; segment = s })) (sym is) ((in_candidates segments numbers (record { number = k; segment = s })).1 (c, e))

    out : (k : ℕ) (s : Seg) → Contains candidates (record { number = k; segment = s }) → Contains numbers k × (slice_get segments k ≡ Some s)
    out k s c = (in_candidates segments numbers (record { number = k; segment = s })).0 (subst (λ (cs : List Candidate). Contains cs (record { number = k; segment = s })) is c)

    along : (r q : Record) → IsRecordIn tile candidates r → IsAlongIn candidates r q → IsAlong segments r q
    along r q k (inl l) = inl l
    along r q k (inr (e, f)) = inr (e, λ s m. f s (into r.segment s (out r.segment k.s k.listed).0 m))

    to : (r : Record) → Contains records r → IsRecord segments r × Owned r.pixel
    to r c =
        let k = (h.exact r).0 c in
        let m = out r.segment k.s k.listed in
        (record { s = k.s; is_at = m.1; hot = hot_from_candidates Owned segments numbers are r.pixel (subst (λ (ss : List Seg). IsHot ss r.pixel) segs k.hot); met = k.met; steps_are = k.steps_are }, (same r.pixel).0 k.in_tile)

    from : (r : Record) → IsRecord segments r × Owned r.pixel → Contains records r
    from r (k, own) = (h.exact r).1 (record {
      s = k.s;
      listed = into r.segment k.s (are.complete r.segment k.s r.pixel k.is_at k.met own) k.is_at;
      hot = subst (λ (ss : List Seg). IsHot ss r.pixel) (sym segs) (hot_of_candidates Owned segments numbers are r.pixel own k.hot);
      met = k.met;
      in_tile = (same r.pixel).1 own;
      steps_are = k.steps_are;
    })

-- ---- what `piece` makes
pub piece_found : (segments : List Seg) (numbers : List ℕ) (tile : Rect) (pixels : List Pt) (candidates : List Candidate) (found records : List Record) (n : ℕ) → AreOwnedHot (IsIn tile) (chosen segments numbers) pixels → candidates ≡ candidates_of segments numbers
    → HasRecords (candidates_of segments numbers) pixels found → IsSortedOnce record_cmp found records → n ≡ length pixels → IsPiece tile candidates n records
piece_found segments numbers tile pixels candidates found records n hot e all once is = subst (λ (cs : List Candidate). IsPiece tile cs n records) (sym e) (piece_is segments numbers tile pixels found records hot all once n is)

-- ---- what is found among candidates that leave out no segment is the part of a tile
pub part_found : (Owned : Pt → Type 0) (segments : List Seg) (numbers : List ℕ) (tile : Rect) (pixels : List Pt) (records : List Record) → ((c : Pt) → IsIn tile c ↔ Owned c) → AreCandidates Owned segments numbers
    → AreOwnedHot (IsIn tile) (chosen segments numbers) pixels → HasInnerRecords (candidates_of segments numbers) pixels records → IsPartOf Owned segments pixels records
part_found Owned segments numbers tile pixels records same are hot all = record { are_hot = owned; exact = λ r. (to r, from r) }
  where
    owned : AreOwnedHot Owned segments pixels
    owned = owned_of_all Owned segments numbers pixels are (owned_by (IsIn tile) Owned (chosen segments numbers) pixels same hot)

    to : (r : Record) → Contains records r → IsInnerRecord segments r × Owned r.pixel
    to r k =
        let ((c, m, of, inner), at) = (all.same r).0 k in
        let (h, o) = (owned.exact r.pixel).0 at in
        let known : IsRecord segments r = record { s = c.segment; is_at = subst (λ (n : ℕ). slice_get segments n ≡ Some c.segment) (sym of.numbered) ((in_candidates segments numbers c).0 m).1; hot = h; met = of.met; steps_are = of.steps_are } in
        (record { known = known; inner = inner }, o)

    from : (r : Record) → IsInnerRecord segments r × Owned r.pixel → Contains records r
    from r (h, own) = let k = h.known in (all.same r).1 (
      (
        record { number = r.segment; segment = k.s },
        (in_candidates segments numbers (record { number = r.segment; segment = k.s })).1 (are.complete r.segment k.s r.pixel k.is_at k.met own, k.is_at),
        record { numbered = refl; met = k.met; steps_are = k.steps_are },
        h.inner,
      ),
      (owned.exact r.pixel).1 (k.hot, own),
    )
