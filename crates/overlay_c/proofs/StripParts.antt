-- The lists of one strip more, one behind another.
use Rattle.std.proofs.Common.{◌≡◌, ◌<◌, ◌+◌, ◌++◌, ◌∷◌, ◌∙◌, [], ℕ, List, ap, arith, get_or, length, map, subst, sym, take}
use Rattle.std.specs.declared.vec.Vec.{Vec}
use Rattle.std.proofs.lemmas.List.{append-nil, get_or-map, length-append, length-map, map-append, take_more}
use Rattle.std.proofs.lemmas.Grind.{flat_map-append}
use Rattle.columns.specs.Answers.{offsets_from}
use Rattle.columns.specs.Layout.{joined}
use Rattle.columns.proofs.Written.{one_list}
use Rattle.phases.specs.Scattered.{lists_of}
use Rattle.strips_law.specs.declared.line.Line.{Line}
use Rattle.overlay_c.specs.declared.strip_items.OverlayLine.{OverlayLine}
use Rattle.overlay_c.specs.Strips.{told_line}

module _ {M : Type 0} (vecs : List (Vec Line M)) (i : ℕ) (v : Vec Line M) (inside : i < length vecs) (is : v ≡ get_or vecs i v) where
  next : take (i + 1) (lists_of vecs) ≡ take i (lists_of vecs) ++ v.items ∷ []
  next = take_more (lists_of vecs) i v.items (subst (λ (n : ℕ). i < n) (sym (length-map vecs (λ (x : Vec Line M). x.items))) inside)
      ∙ ap (λ (l : List Line). take i (lists_of vecs) ++ l ∷ []) (get_or-map (λ (x : Vec Line M). x.items) vecs i v v.items inside ∙ sym (ap (λ (x : Vec Line M). x.items) is))

  joined_next : joined (take (i + 1) (lists_of vecs)) ≡ joined (take i (lists_of vecs)) ++ v.items
  joined_next = ap (λ (ls : List (List Line)). joined ls) next ∙ flat_map-append (λ (l : List Line). l) (take i (lists_of vecs)) (v.items ∷ []) ∙ ap (λ (l : List Line). joined (take i (lists_of vecs)) ++ l) (append-nil v.items)

  module _ (old new : List OverlayLine) (old_is : old ≡ map told_line (joined (take i (lists_of vecs)))) (new_is : new ≡ old ++ map told_line v.items) where
    pub lines_more : new ≡ map told_line (joined (take (i + 1) (lists_of vecs)))
    lines_more = new_is ∙ ap (λ (t : List OverlayLine). t ++ map told_line v.items) old_is ∙ sym (map-append told_line (joined (take i (lists_of vecs))) v.items) ∙ ap (λ (l : List Line). map told_line l) (sym joined_next)

    -- where the next strip's lines begin
    size : length new ≡ length (joined (take i (lists_of vecs))) + length v.items
    size = ap (λ (t : List OverlayLine). length t) lines_more ∙ length-map (joined (take (i + 1) (lists_of vecs))) told_line ∙ ap (λ (l : List Line). length l) joined_next ∙ length-append (joined (take i (lists_of vecs))) v.items

    pub strips_more : (strips : List ℕ) → strips ≡ offsets_from 0 (take i (lists_of vecs)) → strips ++ length new ∷ [] ≡ offsets_from 0 (take (i + 1) (lists_of vecs))
    strips_more strips h = let s = size in
        ap (λ (t : List ℕ). t ++ length new ∷ []) h ∙ sym (one_list 0 (length new) (take i (lists_of vecs)) v.items (omega (arith, s))) ∙ ap (λ (ls : List (List Line)). offsets_from 0 ls) (sym next)
