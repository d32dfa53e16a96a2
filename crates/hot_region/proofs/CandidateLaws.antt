-- Candidates and their hot pixels.
use Rattle.std.proofs.Common.{◌≡◌, ◌⊎◌, inl, inr, ℕ, List, [], ◌∷◌, refl, ◌∙◌, ap, subst, ◌↔◌, ⊎_elim}
use Rattle.std.specs.Prelude.{Contains, Option, Some, None, slice_get}
use Rattle.std.proofs.lemmas.Option.{slice_get-get_or, get_or_from_slice_get, slice_get_within}
use Rattle.geom.specs.declared.point.Pt.{Pt}
use Rattle.geom.specs.declared.segment.Seg.{Seg}
use Rattle.geom.specs.Hot.{IsHot}
use Rattle.hot_region.specs.Candidates.{chosen, AreCandidates, AreOwnedHot}
use Rattle.hot_region.proofs.ListLaws.{in_cons, from_cons, here, none_in}
use Rattle.hot_region.proofs.HotLaws.{hot_lines}

-- ---- the chosen segments
chosen_cons : (segments : List Seg) (k : ℕ) (ks : List ℕ) (o : Option Seg) → slice_get segments k ≡ o → (s : Seg) → Contains (chosen segments (k ∷ ks)) s ↔ ((o ≡ Some s) ⊎ Contains (chosen segments ks) s)
chosen_cons segments k ks None e s = rw e ((λ h. inr h), (λ h. ⊎_elim (λ f. absurd (cc)) (λ f. f) h))
chosen_cons segments k ks (Some t) e s = rw e (
  (λ h. ⊎_elim (λ f. inl (ap Some f)) (λ f. inr f) (from_cons t (chosen segments ks) s h)),
  (λ h. ⊎_elim (λ f. let g : t ≡ s = cc in subst (λ (u : Seg). Contains (t ∷ chosen segments ks) u) g (here t (chosen segments ks))) (λ f. in_cons t (chosen segments ks) s f) h),
)

pub in_chosen : (segments : List Seg) (numbers : List ℕ) (s : Seg) → Contains (chosen segments numbers) s ↔ ((k : ℕ) × Contains numbers k × (slice_get segments k ≡ Some s))
in_chosen segments [] s = (λ h. absurd (none_in s h), λ h. absurd (none_in h.0 h.1))
in_chosen segments (n ∷ ns) s = (
  (λ h. ⊎_elim (λ e. (n, here n ns, e)) (λ k. let r = (in_chosen segments ns s).0 k in (r.0, in_cons n ns r.0 r.1, r.2)) ((chosen_cons segments n ns (slice_get segments n) refl s).0 h)),
  (λ h. (chosen_cons segments n ns (slice_get segments n) refl s).1 (⊎_elim (λ e. inl (ap (λ (k : ℕ). slice_get segments k) e ∙ h.2)) (λ k. inr ((in_chosen segments ns s).1 (h.0, k, h.2))) (from_cons n ns h.0 h.1))),
)

pub contains_at : (segments : List Seg) (s : Seg) → Contains segments s → (k : ℕ) × (slice_get segments k ≡ Some s)
contains_at segments s h = (h.0, slice_get-get_or segments h.0 s h.1 ∙ ap Some h.2)

pub at_contains : (segments : List Seg) (k : ℕ) (s : Seg) → slice_get segments k ≡ Some s → Contains segments s
at_contains segments k s h = (k, slice_get_within segments k s h, get_or_from_slice_get segments k s s h)

pub among : (segments : List Seg) (numbers : List ℕ) (s : Seg) → Contains (chosen segments numbers) s → Contains segments s
among segments numbers s h = let r = (in_chosen segments numbers s).0 h in at_contains segments r.0 s r.2

-- ---- the hot pixels that are owned are those of the candidates
module _ (Owns : Pt → Type 0) (segments : List Seg) (numbers : List ℕ) (are : AreCandidates Owns segments numbers) where
  pub hot_of_candidates : (c : Pt) → Owns c → IsHot segments c → IsHot (chosen segments numbers) c
  hot_of_candidates c t h = hot_lines segments (chosen segments numbers) c
      (λ s k m. let r = contains_at segments s k in (s, (in_chosen segments numbers s).1 (r.0, are.complete r.0 s c r.1 m t, r.1), inl (refl, refl))) h

  pub hot_from_candidates : (c : Pt) → IsHot (chosen segments numbers) c → IsHot segments c
  hot_from_candidates c h = hot_lines (chosen segments numbers) segments c (λ s k m. (s, among segments numbers s k, inl (refl, refl))) h

pub all_chosen : (P : Seg → Type 0) (segments : List Seg) (numbers : List ℕ) → ((s : Seg) → Contains segments s → P s) → (s : Seg) → Contains (chosen segments numbers) s → P s
all_chosen P segments numbers h s k = h s (among segments numbers s k)

-- what a tile owns of the hot pixels, by another word for owning and for all segments
pub owned_by : (Owned Other : Pt → Type 0) (segments : List Seg) (pixels : List Pt) → ((c : Pt) → Owned c ↔ Other c) → AreOwnedHot Owned segments pixels → AreOwnedHot Other segments pixels
owned_by Owned Other segments pixels same h = record { ascending = h.ascending; exact = λ c. ((λ k. let r = (h.exact c).0 k in (r.0, (same c).0 r.1)), (λ k. (h.exact c).1 (k.0, (same c).1 k.1))) }

pub owned_of_all : (Owned : Pt → Type 0) (segments : List Seg) (numbers : List ℕ) (pixels : List Pt) → AreCandidates Owned segments numbers → AreOwnedHot Owned (chosen segments numbers) pixels → AreOwnedHot Owned segments pixels
owned_of_all Owned segments numbers pixels are h = record {
  ascending = h.ascending;
  exact = λ c. (
    (λ k. let r = (h.exact c).0 k in (hot_from_candidates Owned segments numbers are c r.0, r.1)),
    (λ k. (h.exact c).1 (hot_of_candidates Owned segments numbers are c k.1 k.0, k.1)),
  );
}

pub candidates_by : (Owned Other : Pt → Type 0) (segments : List Seg) (numbers : List ℕ) → ((c : Pt) → Other c → Owned c) → AreCandidates Owned segments numbers → AreCandidates Other segments numbers
candidates_by Owned Other segments numbers to h = record { ascending = h.ascending; below = h.below; complete = λ k s c at met own. h.complete k s c at met (to c own) }

pub owned_of_chosen : (Owned : Pt → Type 0) (segments : List Seg) (numbers : List ℕ) (pixels : List Pt) → AreCandidates Owned segments numbers → AreOwnedHot Owned segments pixels → AreOwnedHot Owned (chosen segments numbers) pixels
owned_of_chosen Owned segments numbers pixels are h = record {
  ascending = h.ascending;
  exact = λ c. (
    (λ k. let r = (h.exact c).0 k in (hot_of_candidates Owned segments numbers are c r.1 r.0, r.1)),
    (λ k. (h.exact c).1 (hot_from_candidates Owned segments numbers are c k.0, k.1)),
  );
}
