-- The segments near a tile, from the bins, as candidates.
use Rattle.std.proofs.Common.{◌≡◌, ℕ, ◌<◌, List, [], ◌∷◌, refl, sym, ◌∙◌, ap, arith, subst, ◌↔◌, ⊎_elim}
use Rattle.std.specs.Prelude.{AllPairs, Contains, Option, Some, None, slice_get, ◌≤ℤ◌}
use Rattle.std.proofs.Math.IntN.{ℤ}
use Rattle.geom.specs.declared.point.Pt.{Pt}
use Rattle.geom.specs.declared.rect.Rect.{Rect}
use Rattle.geom.specs.declared.segment.Seg.{Seg}
use Rattle.geom.specs.Box.{IsInBox, greatest_corner, least_corner}
use Rattle.geom.proofs.Integers.{linear}
use Rattle.geom.proofs.Lists.{some_same}
use Rattle.grid.specs.Tiles.{Tiling, Owns}
use Rattle.tiling.specs.Index.{AreIndexed}
use Rattle.grid.specs.Bins.{IsBin}
use Rattle.tiling.specs.Bins.{Binned}
use Rattle.hot_region.specs.Candidates.{AreCandidates}
use Rattle.hot_region.proofs.ListLaws.{in_cons, from_cons, here, none_in, head_pair, tail_pairs, pairs_cons}
use Rattle.routing.specs.declared.record.Candidate.{Candidate}
use Rattle.routing.specs.Pieces.{candidates_of}
use Rattle.routing.proofs.PieceLaws.{in_candidates}
use Rattle.linking.specs.Gathered.{AreBoxesOf, box_corners}
use Rattle.linking.proofs.Boxes.{into_bin, out_of_bin}
use Rattle.linking.proofs.Near.{bin_candidates, has_hi, has_lo}
use Rattle.chain_gather.specs.Gathered.{AreBinsOf, AreTileCandidates, IsNear, IsNumberedBefore}
use Rattle.chain_gather.proofs.Boxes.{bin_over}

-- ---- candidates ascend by their numbers
ascend_cons : (segments : List Seg) (n : ℕ) (ns : List ℕ) (o : Option Seg) → slice_get segments n ≡ o → AllPairs (λ i j. i < j) (n ∷ ns) → AllPairs IsNumberedBefore (candidates_of segments ns) → AllPairs IsNumberedBefore (candidates_of segments (n ∷ ns))
ascend_cons segments n ns None e p rest = rw e rest
ascend_cons segments n ns (Some s) e p rest = rw e (pairs_cons IsNumberedBefore (record { number = n; segment = s }) (candidates_of segments ns) (λ c h. head_pair (λ i j. i < j) n ns c.number p ((in_candidates segments ns c).0 h).0) rest)

candidates_ascend : (segments : List Seg) (numbers : List ℕ) → AllPairs (λ i j. i < j) numbers → AllPairs IsNumberedBefore (candidates_of segments numbers)
candidates_ascend segments [] p = λ i j d a b. absurd (omega arith)
candidates_ascend segments (n ∷ ns) p = ascend_cons segments n ns (slice_get segments n) refl p (candidates_ascend segments ns (tail_pairs (λ i j. i < j) n ns p))

module _ (g : Tiling) (segments : List Seg) (boxes : List Rect) (k : ℕ) (numbers : List ℕ) (are : AreBoxesOf segments boxes) (bin : IsBin g k boxes numbers) where
  to : (c : Candidate) → Contains (candidates_of segments numbers) c → IsNear g segments k c
  to c h =
      let (n, at) = (in_candidates segments numbers c).0 h in
      let (s, is, (p, inside, owned)) = out_of_bin box_corners g segments boxes k numbers are bin c.number n in
      let e : s ≡ c.segment = some_same is at in
      record { is_at = at; point = p; in_box = subst (λ (t : Seg). IsInBox (least_corner t.a t.b) (greatest_corner t.a t.b) p) e inside; owned = owned }

  from : (c : Candidate) → IsNear g segments k c → Contains (candidates_of segments numbers) c
  from c h = (in_candidates segments numbers c).1 (into_bin box_corners g segments boxes k numbers are bin c.number c.segment h.point h.is_at h.in_box h.owned, h.is_at)

  pub tile_candidates : AreTileCandidates g segments k (candidates_of segments numbers)
  tile_candidates = record { ascending = candidates_ascend segments numbers bin.ascending; exact = λ c. (to c, from c) }

-- ---- candidates by ascending numbers are told by what they contain
apart : (c d : Candidate) → c.number < d.number → c ≡ d → ⊥
apart c d l e = let f = ap (λ (x : Candidate). x.number) e in omega arith

pub one_list : (xs ys : List Candidate) → AllPairs IsNumberedBefore xs → AllPairs IsNumberedBefore ys → ((c : Candidate) → Contains xs c ↔ Contains ys c) → xs ≡ ys
one_list [] [] p q h = refl
one_list [] (y ∷ ys) p q h = absurd (none_in y ((h y).1 (here y ys)))
one_list (x ∷ xs) [] p q h = absurd (none_in x ((h x).0 (here x xs)))
one_list (x ∷ xs) (y ∷ ys) p q h = λ i. first i ∷ one_list xs ys (tail_pairs IsNumberedBefore x xs p) (tail_pairs IsNumberedBefore y ys q) (λ c. (into c, out c)) i
  where
    first : x ≡ y
    first = ⊎_elim
        (λ e. sym e)
        (λ a. ⊎_elim (λ e. e) (λ b. absurd (let l = head_pair IsNumberedBefore y ys x q a in let m = head_pair IsNumberedBefore x xs y p b in omega arith)) (from_cons x xs y ((h y).1 (here y ys))))
        (from_cons y ys x ((h x).0 (here x xs)))

    into : (c : Candidate) → Contains xs c → Contains ys c
    into c k = ⊎_elim (λ e. absurd (apart x c (head_pair IsNumberedBefore x xs c p k) (first ∙ e))) (λ m. m) (from_cons y ys c ((h c).0 (in_cons x xs c k)))

    out : (c : Candidate) → Contains ys c → Contains xs c
    out c k = ⊎_elim (λ e. absurd (apart y c (head_pair IsNumberedBefore y ys c q k) (sym first ∙ e))) (λ m. m) (from_cons x xs c ((h c).1 (in_cons y ys c k)))

pub one_candidates : (g : Tiling) (segments : List Seg) (k : ℕ) (xs ys : List Candidate) → AreTileCandidates g segments k xs → AreTileCandidates g segments k ys → xs ≡ ys
one_candidates g segments k xs ys a b = one_list xs ys a.ascending b.ascending (λ c. (λ h. (b.exact c).1 ((a.exact c).0 h), λ h. (a.exact c).1 ((b.exact c).0 h)))

-- ---- rectangles are told by their points
close : {x y : ℤ} → x ≤ℤ y → y ≤ℤ x → x ≡ y
close {x} {y} h k = omega (arith, linear)

pub one_rect : (r q : Rect) → ((p : Pt) → IsInBox r.lo r.hi p ↔ IsInBox q.lo q.hi p) → (r.lo ≡ q.lo) × (r.hi ≡ q.hi)
one_rect r q h =
    let a = (h r.lo).0 (has_lo r) in
    let b = (h q.lo).1 (has_lo q) in
    let c = (h r.hi).0 (has_hi r) in
    let d = (h q.hi).1 (has_hi q) in
    let lx : r.lo.x ≡ q.lo.x = close b.left a.left in
    let ly : r.lo.y ≡ q.lo.y = close b.bottom a.bottom in
    let hx : r.hi.x ≡ q.hi.x = close c.right d.right in
    let hy : r.hi.y ≡ q.hi.y = close c.top d.top in
    (λ i. record { x = lx i; y = ly i }, λ i. record { x = hx i; y = hy i })

-- ---- what a bin says
pub near_by_bin : (g : Tiling) (segments : List Seg) (bins : Binned) (k : ℕ) (numbers list : List ℕ) → AreBinsOf g segments bins → ((boxes : List Rect) → AreIndexed boxes bins.items → IsBin bins.grid k boxes numbers) → list ≡ numbers
    → AreCandidates (Owns g k) segments list × AreTileCandidates g segments k (candidates_of segments list)
near_by_bin g segments bins k numbers list are found e =
    let bin = bin_over box_corners g segments bins k numbers are found in
    rw e (bin_candidates g segments are.boxes k numbers are.are_boxes bin, tile_candidates g segments are.boxes k numbers are.are_boxes bin)
