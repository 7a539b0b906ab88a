-- Elements that are taken one by one, each giving one of a list that is made.
use Rattle.std.proofs.Common.{◌≡◌, List, [], ◌∷◌, ◌++◌, map, ap, ◌∙◌, append_assoc}
use Rattle.std.proofs.lemmas.List.{map-append}

-- What was put at the end, as it is seen.
pub pushed : {X Y : Type 0} (view : X → Y) (made more : List X) (x : X) (y : Y) → more ≡ made ++ x ∷ [] → view x ≡ y → map view more ≡ map view made ++ y ∷ []
pushed view made more x y e f = ap (map view) e ∙ map-append view made (x ∷ []) ∙ ap (λ z. map view made ++ z ∷ []) f

-- What is made, with what is still to be made, is all.
pub more_mapped : {X Y : Type 0} (make : X → Y) (all made more : List Y) (x : X) (rest : List X) → more ≡ made ++ make x ∷ [] → made ++ map make (x ∷ rest) ≡ all
    → more ++ map make rest ≡ all
more_mapped make all made more x rest e h = ap (λ ys. ys ++ map make rest) e ∙ append_assoc made (make x ∷ []) (map make rest) ∙ h
