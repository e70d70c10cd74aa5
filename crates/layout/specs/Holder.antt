-- The component that holds a file byte, and the bytes that a layout covers.
use Rattle.std.specs.Prelude.{ℕ, List, Bool, ◌&&◌, ltb, leb}
use Rattle.lists.specs.Tests.{after, any_of, first_that}
use Rattle.layout.specs.declared.Component.{Component}
use Rattle.layout.specs.Records.{neighbours_of}
use Rattle.layout.specs.Neighbours.{end_of}

-- "an extent is [begin, end)": does the component's extent hold byte b?
abbrev pub holds : Component → ℕ → Bool
holds c b = leb c.begin b && ltb b c.end

-- The position of the first component that holds byte b, from 0; the number of components if none does.
abbrev pub holder_of : ℕ → List Component → ℕ
holder_of b cs = first_that (λ (c : Component). holds c b) cs

-- "It covers the file bytes that lie in some component's extent."
abbrev pub covers : List Component → ℕ → Bool
covers cs b = any_of (λ (c : Component). holds c b) cs

-- Where the last component ends; 0 if there is none.
abbrev pub last_end : List Component → ℕ
last_end cs = after end_of 0 (neighbours_of cs)
