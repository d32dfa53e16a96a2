-- The records of all tiles together.
use Rattle.std.proofs.Common.{◌≡◌, inl, inr, ℕ, ◌+◌, ◌<◌, ◌≤◌, List, [], ◌++◌, Less, sym, ◌∙◌, ap, arith, subst, get_or, ⊎_elim}
use Rattle.std.proofs.Math.Nat.{mul-le-mul_left}
use Rattle.std.specs.Prelude.{AllPairs, Contains, Some, slice_get}
use Rattle.std.proofs.lemmas.Bool.{cases_lt}
use Rattle.std.proofs.lemmas.Cmp.{tied_itself}
use Rattle.std.proofs.lemmas.List.Elements.{Contains-get_or, Contains-append_left, Contains-append_right, Contains-append_cases}
use Rattle.geom.specs.declared.point.Pt.{Pt}
use Rattle.geom.specs.declared.segment.Seg.{Seg}
use Rattle.geom.specs.Route.{Meets}
use Rattle.grid.specs.Tiles.{Tiling, Owns, HasTile, tile_count}
use Rattle.hot_region.proofs.ListLaws.{none_in}
use Rattle.geom.proofs.Lists.{some_same}
use Rattle.hot_region.proofs.HotLaws.{hot_meets}
use Rattle.routing.specs.declared.record.Record.{Record}
use Rattle.routing.specs.Steps.{steps_to}
use Rattle.routing.specs.Pieces.{IsRecord, IsPieceOf}
use Rattle.routing.proofs.StepLaws.{same_from_steps}
use Rattle.routing.proofs.RecordOrder.{record_cmp, record_total, record_less}
use Rattle.linking.specs.Links.{IsRecordBefore, AreRecords, HasRecords}
use Rattle.linking.specs.Gathered.{HasTilesBelow}
use Rattle.linking.specs.Orders.{AreSortedOnce}

pub below_none : (g : Tiling) (segments : List Seg) → HasTilesBelow g segments 0 []
below_none g segments = record { same = λ r. (λ h. absurd (none_in r h), λ h. absurd (let l = h.1.1 in omega arith)) }

pub below_more : (g : Tiling) (segments : List Seg) (k hot : ℕ) (list part : List Record) → HasTilesBelow g segments k list → IsPieceOf (Owns g k) segments hot part → HasTilesBelow g segments (k + 1) (list ++ part)
below_more g segments k hot list part h p = record {
  same = λ r. (
    (λ c. ⊎_elim (λ m. let n = (h.same r).0 m in (n.0, (n.1.0, weak n.1.0 n.1.1, n.1.2))) (λ m. let n = (p.exact r).0 m in (n.0, (k, own k, n.1))) (Contains-append_cases list part r c)),
    (λ (is, (j, l, o)). ⊎_elim
        (λ m. Contains-append_left list part r ((h.same r).1 (is, (j, m, o))))
        (λ m. Contains-append_right list part r ((p.exact r).1 (is, (let e : j ≡ k = omega arith in subst (λ (n : ℕ). Owns g n r.pixel) e o))))
        (cases_lt j k)),
  );
}
  where
    weak : (j : ℕ) → j < k → j < k + 1
    weak j l = omega arith

    own : (k : ℕ) → k < k + 1
    own k = omega arith

-- a tile that owns a point is one of the grid's
pub owner_below : (g : Tiling) (k : ℕ) (p : Pt) → Owns g k p → k < tile_count g
owner_below g k p o = let m = mul-le-mul_left g.columns (let l = o.in_rows in let e : o.row + 1 ≤ g.rows = omega arith in e) in let a = o.number_is in let b = o.in_columns in omega (arith, m)

-- a record goes before another of segments
pub record_before : (segments : List Seg) (r q : Record) → IsRecord segments r → IsRecord segments q → record_cmp r q ≡ Less → IsRecordBefore r q
record_before segments r q h k l = ⊎_elim (λ p. inl p) (λ p. ⊎_elim (λ m. inr (p.0, m)) (λ m. absurd (same p.0 m)) p.1) (record_less r q l)
  where
    same : r.segment ≡ q.segment → r.steps ≡ q.steps → ⊥
    same e f =
        let s : h.s ≡ k.s = some_same (subst (λ (n : ℕ). slice_get segments n ≡ Some h.s) e h.is_at) k.is_at in
        let met : Meets h.s q.pixel = subst (λ (u : Seg). Meets u q.pixel) (sym s) k.met in
        let g : steps_to h.s r.pixel ≡ steps_to h.s q.pixel = sym h.steps_are ∙ f ∙ k.steps_are ∙ ap (λ (u : Seg). steps_to u q.pixel) (sym s) in
        let p : r.pixel ≡ q.pixel = same_from_steps h.s r.pixel q.pixel h.met met g in
        let whole : r ≡ q = λ i. record { segment = e i; steps = f i; pixel = p i } in
        let o = tied_itself record_total q in
        let n : record_cmp q q ≡ Less = subst (λ (x : Record). record_cmp x q ≡ Less) whole l in
        cc

ascending_records : (segments : List Seg) (list : List Record) → AllPairs (λ r q. record_cmp r q ≡ Less) list → ((r : Record) → Contains list r → IsRecord segments r) → AllPairs IsRecordBefore list
ascending_records segments list less known = λ i j d a b. record_before segments (get_or list i d) (get_or list j d) (known _ (Contains-get_or list i d (omega arith))) (known _ (Contains-get_or list j d b)) (less i j d a b)

-- every pixel that a segment meets has a tile
pub record AreCovered (g : Tiling) (segments : List Seg) : Type 0 where
  pub tile : (s : Seg) (c : Pt) → Contains segments s → Meets s c → HasTile g c

-- the records of all tiles are those of all routes
pub tiles_have : (g : Tiling) (segments : List Seg) (found : List Record) → AreCovered g segments → HasTilesBelow g segments (tile_count g) found → HasRecords segments found
tiles_have g segments found covered all = record { exact = λ r. (λ h. ((all.same r).0 h).0, from r) }
  where
    from : (r : Record) → IsRecord segments r → Contains found r
    from r h =
        let m = hot_meets segments r.pixel h.hot in
        let t = covered.tile m.0 r.pixel m.1 m.2 in
        (all.same r).1 (h, (t.0, owner_below g t.0 r.pixel t.1, t.1))

-- sorted and each once they are in order
pub gathered_are : (segments : List Seg) (found list : List Record) → HasRecords segments found → AreSortedOnce found list → AreRecords segments list
gathered_are segments found list all once = record {
  ascending = ascending_records segments list once.ascending (λ r h. (all.exact r).0 ((once.same r).0 h));
  exact = λ r. (λ h. (all.exact r).0 ((once.same r).0 h), λ h. (once.same r).1 ((all.exact r).1 h));
}
