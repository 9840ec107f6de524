-- A journal, entry by entry, against the story that it stands for. Assumes nothing.
use Rattle.std.proofs.Common.{◌≡◌, suc, List, [], ◌∷◌, ◌++◌, reverse, length, refl, ap, ◌∙◌}
use Rattle.std.proofs.lemmas.List.{length-reverse, reverse-append}
use Rattle.journal.proofs.Undoing.{undoes}
use Rattle.journal.specs.Entries.{entry_of, undone}
use Rattle.journal.specs.Stories.{earlier}
use Rattle.journal.specs.declared.entry.Entry.{Entry}
use Rattle.processor.specs.Views.{View, applied}
use Rattle.processor.specs.declared.effect.Effect.{Effect}

length-earlier : (es : List Entry) (v : View) → length (earlier es v) ≡ length es
length-earlier [] v = refl
length-earlier (e ∷ es) v = ap suc (length-earlier es (undone e v))

-- as many views as entries
pub length_past : (es : List Entry) (v : View) → length (earlier (reverse es) v) ≡ length es
length_past es v = length-earlier (reverse es) v ∙ length-reverse es

-- one entry more
pub earlier_pushed : (es : List Entry) (e : Effect) (v : View) → earlier (reverse (es ++ (entry_of e v ∷ []))) (applied e v) ≡ v ∷ earlier (reverse es) v
earlier_pushed es e v =
    ap (λ l. earlier l (applied e v)) (reverse-append es (entry_of e v ∷ [])) ∙ ap (λ u. u ∷ earlier (reverse es) u) (undoes e v)
