-- A ring has one least rotation.
use Rattle.std.proofs.Common.{◌≡◌, List, [], ◌∷◌, ◌++◌, refl, sym, ◌∙◌, ap, append_assoc}
use Rattle.geom.specs.declared.point.Pt.{Pt}
use Rattle.geom.specs.ListOrder.{IsRotation, IsLeastRotation}
use Rattle.geom.proofs.ListOrder.{neither_list_before}

pub one_rotation : (ring a b : List Pt) → IsLeastRotation ring a → IsLeastRotation ring b → a ≡ b
one_rotation ring a b h k = neither_list_before a b (k.none_less a h.rotation) (h.none_less b k.rotation)

-- ---- rotations of rotations
-- of two fronts of one list, one is the front of the other
pub data Overlap {X : Type 0} (a b c d : List X) : Type 0 where
  longer : (mid : List X) → a ≡ c ++ mid → d ≡ mid ++ b → Overlap a b c d
  shorter : (mid : List X) → c ≡ a ++ mid → b ≡ mid ++ d → Overlap a b c d

pub overlap : {X : Type 0} (a b c d : List X) → a ++ b ≡ c ++ d → Overlap a b c d
overlap [] b c d e = shorter c refl e
overlap (x ∷ a) b [] d e = longer (x ∷ a) refl (sym e)
overlap {X} (x ∷ a) b (y ∷ c) d e = further (overlap a b c d (cc))
  where
    same : x ≡ y
    same = cc

    further : Overlap a b c d → Overlap (x ∷ a) b (y ∷ c) d
    further (longer mid p q) = longer mid (cc) q
    further (shorter mid p q) = shorter mid (cc) q

pub rotation_back : (x y : List Pt) → IsRotation x y → IsRotation y x
rotation_back x y r = record { front = r.back; back = r.front; was = r.is; is = r.was }

pub rotation_trans : (x y z : List Pt) → IsRotation x y → IsRotation y z → IsRotation x z
rotation_trans x y z r s = by_overlap (overlap r.back r.front s.front s.back (sym r.is ∙ s.was))
  where
    by_overlap : Overlap r.back r.front s.front s.back → IsRotation x z
    by_overlap (longer mid p q) = record {
      front = r.front ++ s.front;
      back = mid;
      was = r.was ∙ ap (λ t. r.front ++ t) p ∙ sym (append_assoc r.front s.front mid);
      is = s.is ∙ ap (λ t. t ++ s.front) q ∙ append_assoc mid r.front s.front;
    }
    by_overlap (shorter mid p q) = record {
      front = mid;
      back = s.back ++ r.back;
      was = r.was ∙ ap (λ t. t ++ r.back) q ∙ append_assoc mid s.back r.back;
      is = s.is ∙ ap (λ t. s.back ++ t) p ∙ sym (append_assoc s.back r.back mid);
    }
