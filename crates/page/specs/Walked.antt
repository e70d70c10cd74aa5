-- What a walk over a page gives, and what it tells those that decode the components at its places.
use Rattle.std.specs.Prelude.{ℕ, ◌≤◌, ◌<◌, ◌≡◌, List, map, Option, true, length, get_or, take}
use Rattle.std.proofs.lemmas.List.Edits.{sets}
use Rattle.std.proofs.Common.{get_or-take}
use Rattle.page.specs.Form.{counted, component_end, end_if, places_from, page_places, page_end, form_by, page_form}
use Rattle.page.specs.Content.{component_at, components_of}
use Rattle.page.specs.FormLaws.{place_within, form_room, form_components, some_components, few_components, page_short, page_by}

-- A walk over the page that bytes s begin with gives where the page ends, or `None` if it does not have its form. The first n
-- places stay as they were, and so does the number of positions. If the page has its form, the places of its components
-- are stored from position n on.
abbrev pub Walks : ℕ → List ℕ → ℕ → ℕ → List ℕ → List ℕ → Option ℕ → Type 0
Walks limit s base n before after r =
    (r ≡ end_if (form_by limit s) (page_end s))
    × (take n after ≡ take n before)
    × (length after ≡ length before)
    × (form_by limit s ≡ true → after ≡ sets before n (page_places base s))

-- The bytes are a page of good form, and the places of its components are the first of these places.
pub record Walked (s : List ℕ) (places : List ℕ) : Type 0 where
  pub head : 16 ≤ length s
  pub some : 1 ≤ counted s
  pub few : counted s ≤ 12
  pub components : map (component_at s) (take (counted s) places) ≡ components_of s
  pub within : (i : ℕ) → i < counted s → component_end s (get_or places i 0) ≤ length s

pub walked_page : (s places : List ℕ) → page_form s ≡ true → take (counted s) places ≡ places_from (counted s) s 16 → Walked s places
unfolding components_of
walked_page s places e t =
    let f = page_by s e in
    record {
      head = form_room (length s) s f;
      some = some_components (length s) s f;
      few = few_components (length s) s f (page_short s e);
      components = rw t;
      within = λ i h. rw (← get_or-take (counted s) places i 0 h, t)
          (place_within (counted s) (length s) s 16 i (form_components (length s) s f) h);
    }
