-- Which functions a written program has: one for each method that is run in a domain, an allocator for each domain that
-- allocates, a copier for each portal with references that a domain calls, and no other one.
use Rattle.std.specs.Prelude.{ℕ, List, [], ◌∷◌, flat_map, slice_index_or}
use Rattle.std.specs.List.Sorted.{IsPermutation}
use Rattle.csubset.specs.declared.map.FunctionRow.{FunctionRow}
use Rattle.csubset.specs.declared.map.FunctionKind.{FunctionKind}
use Rattle.csubset.specs.declared.map.FunctionKind.TheVariants.{Method, Alloc, Copy}
use Rattle.csubset.specs.declared.map.Map.{Map}

-- what is needed, each once: methods as `Class/Name.method(desc)ret` in their domains, domains, and portals in the domains
-- that call them
pub record Needed : Type 0 where
  pub methods : List (ℕ × List ℕ)
  pub allocators : List ℕ
  pub copiers : List (ℕ × ℕ)

abbrev pub methods_of : Map → FunctionRow → List (ℕ × List ℕ)
methods_of map row = of_kind row.kind
  where
    of_kind : FunctionKind → List (ℕ × List ℕ)
    of_kind (Method method) = (row.domain, slice_index_or map.methods method []) ∷ []
    of_kind Alloc = []
    of_kind (Copy portal) = []

abbrev pub allocators_of : FunctionRow → List ℕ
allocators_of row = of_kind row.kind
  where
    of_kind : FunctionKind → List ℕ
    of_kind (Method method) = []
    of_kind Alloc = row.domain ∷ []
    of_kind (Copy portal) = []

abbrev pub copiers_of : FunctionRow → List (ℕ × ℕ)
copiers_of row = of_kind row.kind
  where
    of_kind : FunctionKind → List (ℕ × ℕ)
    of_kind (Method method) = []
    of_kind Alloc = []
    of_kind (Copy portal) = (row.domain, portal) ∷ []

pub record HasFunctions (map : Map) (needed : Needed) : Type 0 where
  pub methods : IsPermutation (flat_map (methods_of map) map.functions) needed.methods
  pub allocators : IsPermutation (flat_map allocators_of map.functions) needed.allocators
  pub copiers : IsPermutation (flat_map copiers_of map.functions) needed.copiers
