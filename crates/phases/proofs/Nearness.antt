-- The nearest of the records that were read, and one more.
use Rattle.std.proofs.Common.{◌≡◌, inl, inr, ℕ, ◌<◌, List, [], ◌∷◌, ◌++◌, sym, ap, ◌∙◌, subst, arith, length, get_or, set, ⊎_elim, replicate}
use Rattle.std.specs.Prelude.{None, Option, Some, slice_get}
use Rattle.std.proofs.lemmas.Bool.{cases_eq}
use Rattle.std.proofs.lemmas.List.{get_or-replicate, get_or-set_other, get_or-set_same, length-replicate, length-set}
use Rattle.std.proofs.lemmas.List.Elements.{Contains-push, Contains-push_cases}
use Rattle.std.proofs.lemmas.Option.{get_or_from_slice_get, slice_get-get_or, slice_get_within}
use Rattle.hot_region.proofs.ListLaws.{in_push, none_in}
use Rattle.routing.specs.declared.record.Record.{Record}
use Rattle.phases.specs.Nearest.{AreNearest, IsAsNear, IsNearest}
use Rattle.phases.specs.declared.nearest.Side.{Side}
use Rattle.phases.specs.declared.nearest.Side.TheVariants.{Left, Right}

itself : (side : Side) (n : ℕ) → IsAsNear side n n
itself Left n = omega arith
itself Right n = omega arith

nearer_still : (side : Side) (m n k : ℕ) → IsAsNear side m n → IsAsNear side n k → IsAsNear side m k
nearer_still Left m n k h l = omega (arith, h, l)
nearer_still Right m n k h l = omega (arith, h, l)

module _ (side : Side) (number : ℕ) (records : List Record) (r : Record) where
  pub first_there : IsNearest side number records None → r.segment ≡ number → IsNearest side number (records ++ r ∷ []) (Some r)
  first_there none there = (Contains-push records r, there, λ q c t. ⊎_elim (λ m. absurd (none q m t)) (λ e. subst (λ (x : Record). IsAsNear side r.steps x.steps) e (itself side r.steps)) (Contains-push_cases records r q c))

  pub still_nearest : (n : Record) → IsNearest side number records (Some n) → IsAsNear side n.steps r.steps → IsNearest side number (records ++ r ∷ []) (Some n)
  still_nearest n h near = (in_push records n r h.0, h.1, λ q c t. ⊎_elim (λ m. h.2 q m t) (λ e. subst (λ (x : Record). IsAsNear side n.steps x.steps) e near) (Contains-push_cases records r q c))

  pub now_nearest : (n : Record) → IsNearest side number records (Some n) → r.segment ≡ number → IsAsNear side r.steps n.steps → IsNearest side number (records ++ r ∷ []) (Some r)
  now_nearest n h there near = (
    Contains-push records r,
    there,
    λ q c t. ⊎_elim (λ m. nearer_still side r.steps n.steps q.steps near (h.2 q m t)) (λ e. subst (λ (x : Record). IsAsNear side r.steps x.steps) e (itself side r.steps)) (Contains-push_cases records r q c),
  )

  pub not_there : (near : Option Record) → IsNearest side number records near → (r.segment ≡ number → ⊥) → IsNearest side number (records ++ r ∷ []) near
  not_there None h lies_elsewhere = λ q c t. ⊎_elim (λ m. h q m t) (λ e. lies_elsewhere (subst (λ (x : Record). x.segment ≡ number) (sym e) t)) (Contains-push_cases records r q c)
  not_there (Some n) h lies_elsewhere = (
    in_push records n r h.0,
    h.1,
    λ q c t. ⊎_elim (λ m. h.2 q m t) (λ e. absurd (lies_elsewhere (subst (λ (x : Record). x.segment ≡ number) (sym e) t))) (Contains-push_cases records r q c),
  )

pub none_nearest : (side : Side) (count : ℕ) (nears : List (Option Record)) → length nears ≡ count → ((k : ℕ) (near : Option Record) → slice_get nears k ≡ Some near → near ≡ None) → AreNearest side count [] nears
none_nearest side count nears size none = record {
  one_each = size;
  each = λ k near at. subst (λ (o : Option Record). IsNearest side k [] o) (sym (none k near at)) (λ r c t. none_in r c);
}

pub none_replicated : (count k : ℕ) (near : Option Record) → slice_get (replicate count None) k ≡ Some near → near ≡ None
none_replicated count k near at =
    let w = slice_get_within (replicate count None) k near at in
    let s = length-replicate {A = Option Record} count None in
    sym (get_or_from_slice_get (replicate count None) k near near at) ∙ get_or-replicate count k None near (omega (arith, w, s))

module _ (side : Side) (count : ℕ) (records : List Record) (r : Record) (nears : List (Option Record)) (h : AreNearest side count records nears) where
  -- one record more: that of its line changes
  pub near_more : (old new : Option Record) → r.segment < count → old ≡ get_or nears r.segment old → (IsNearest side r.segment records old → IsNearest side r.segment (records ++ r ∷ []) new) → AreNearest side count (records ++ r ∷ []) (set nears r.segment new)
  near_more old new below old_is more = record { one_each = length-set nears r.segment new ∙ h.one_each; each = each }
    where
      inside : r.segment < length nears
      inside = let s = h.one_each in omega (arith, s, below)

      each : (k : ℕ) (near : Option Record) → slice_get (set nears r.segment new) k ≡ Some near → IsNearest side k (records ++ r ∷ []) near
      each k near at = elim (cases_eq k r.segment) [
        | inl e ↦
            let f : near ≡ new = sym (get_or_from_slice_get (set nears r.segment new) k near near at) ∙ ap (λ (j : ℕ). get_or (set nears r.segment new) j near) e ∙ get_or-set_same nears r.segment new near inside in
            subst (λ (j : ℕ). IsNearest side j (records ++ r ∷ []) near) (sym e) (subst (λ (o : Option Record). IsNearest side r.segment (records ++ r ∷ []) o) (sym f)
            (more (h.each r.segment old (slice_get-get_or nears r.segment old inside ∙ ap Some (sym old_is)))))
        | inr n ↦
            let w = slice_get_within (set nears r.segment new) k near at in
            let s = length-set nears r.segment new in
            let f : get_or nears k near ≡ near = sym (get_or-set_other nears r.segment k new near n) ∙ get_or_from_slice_get (set nears r.segment new) k near near at in
            not_there side k records r near (h.each k near (slice_get-get_or nears k near (omega (arith, w, s)) ∙ ap Some f)) (λ t. n (sym t))
      ]
