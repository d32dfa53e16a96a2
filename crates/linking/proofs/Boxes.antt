-- Items whose boxes are in bins: a bin has the numbers of those near its tile.
use Rattle.std.proofs.Common.{◌≡◌, ◌⊎◌, inl, inr, ℕ, zero, suc, ◌<◌, List, [], ◌∷◌, refl, sym, ◌∙◌, ap, subst, length, map, ⊎_elim}
use Rattle.std.specs.Prelude.{Contains, Some, slice_get}
use Rattle.std.proofs.lemmas.Bool.{cases_eq}
use Rattle.std.proofs.lemmas.Option.{slice_get_within, same_Some}
use Rattle.geom.specs.declared.point.Pt.{Pt}
use Rattle.geom.specs.declared.rect.Rect.{Rect}
use Rattle.geom.specs.Box.{IsInBox}
use Rattle.geom.proofs.Lists.{In}
use Rattle.grid.specs.Tiles.{Tiling, Owns}
use Rattle.grid.specs.Bins.{IsBin}
use Rattle.linking.specs.Gathered.{AreBoxesBy, corners}

pub in_same_box : (lo hi low high p : Pt) → lo ≡ low → hi ≡ high → IsInBox lo hi p → IsInBox low high p
in_same_box lo hi low high p e f h = subst (λ (q : Pt). IsInBox low q p) f (subst (λ (q : Pt). IsInBox q hi p) e h)

-- lists that are mapped to one list have at each place items of one value
heads : {Z : Type 0} (u v : Z) (us vs : List Z) → (u ∷ us) ≡ (v ∷ vs) → u ≡ v
heads u v us vs h = cc

tails : {Z : Type 0} (u v : Z) (us vs : List Z) → (u ∷ us) ≡ (v ∷ vs) → us ≡ vs
tails u v us vs h = cc

mapped_at : {X Y Z : Type 0} (f : X → Z) (g : Y → Z) (xs : List X) (ys : List Y) (k : ℕ) (x : X) → map f xs ≡ map g ys → slice_get xs k ≡ Some x → (y : Y) × (slice_get ys k ≡ Some y) × (f x ≡ g y)
mapped_at f g [] ys k x e at = absurd (cc)
mapped_at f g (u ∷ us) [] k x e at = absurd (cc)
mapped_at f g (u ∷ us) (v ∷ vs) zero x e at = (v, refl, ap f (sym (same_Some u x at)) ∙ heads (f u) (g v) (map f us) (map g vs) e)
mapped_at f g (u ∷ us) (v ∷ vs) (suc k) x e at = mapped_at f g us vs k x (tails (f u) (g v) (map f us) (map g vs) e) at

-- ---- a bin has the numbers of the items near its tile
module _ {X : Type 0} (box : X → Pt × Pt) (g : Tiling) (items : List X) (boxes : List Rect) (k : ℕ) (numbers : List ℕ) (are : AreBoxesBy box items boxes) (bin : IsBin g k boxes numbers) where
  pub into_bin : (n : ℕ) (x : X) (p : Pt) → slice_get items n ≡ Some x → IsInBox (box x).0 (box x).1 p → Owns g k p → Contains numbers n
  into_bin n x p at inside owned =
      let (b, is, same) = mapped_at box corners items boxes n x (sym are) at in
      (bin.exact n).1 (b, is, (p, in_same_box _ _ b.lo b.hi p (ap (λ (c : Pt × Pt). c.0) same) (ap (λ (c : Pt × Pt). c.1) same) inside, owned))

  pub out_of_bin : (n : ℕ) → Contains numbers n → (x : X) × (slice_get items n ≡ Some x) × ((p : Pt) × IsInBox (box x).0 (box x).1 p × Owns g k p)
  out_of_bin n h =
      let (b, is, (p, inside, owned)) = (bin.exact n).0 h in
      let (x, at, same) = mapped_at corners box boxes items n b are is in
      (x, at, (p, in_same_box b.lo b.hi _ _ p (ap (λ (c : Pt × Pt). c.0) same) (ap (λ (c : Pt × Pt). c.1) same) inside, owned))

  pub below_bin : (n : ℕ) → Contains numbers n → n < length items
  below_bin n h = let (x, at, _) = out_of_bin n h in slice_get_within items n x at

-- ---- whether a number is in a list
pub member : (x : ℕ) (xs : List ℕ) → In x xs ⊎ (In x xs → ⊥)
member x [] = inr (λ i. i)
member x (y ∷ ys) = ⊎_elim (λ e. inl (inl e)) (λ ne. ⊎_elim (λ i. inl (inr i)) (λ no. inr (λ i. ⊎_elim ne no i)) (member x ys)) (cases_eq y x)
