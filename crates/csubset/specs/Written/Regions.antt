-- Which regions a written program has: at most one heap and one region of statics for each domain, and scratch, which
-- only the section of a copier touches.
use Rattle.std.specs.Prelude.{◌≡◌, ◌≤◌, ℕ, Bool, true, false, List, [], ◌∷◌, All, count_by, nat_eq, Some, slice_get}
use Rattle.csubset.specs.declared.statement.Form.{Form}
use Rattle.csubset.specs.declared.statement.Form.TheVariants.{Load, Store}
use Rattle.csubset.specs.declared.program.CFunction.{CFunction}
use Rattle.csubset.specs.declared.program.CProgram.{CProgram}
use Rattle.csubset.specs.declared.map.FunctionRow.{FunctionRow}
use Rattle.csubset.specs.declared.map.FunctionKind.TheVariants.{Copy}
use Rattle.csubset.specs.declared.map.RegionRow.{RegionRow}
use Rattle.csubset.specs.declared.map.RegionRow.TheVariants.{Heap, Statics, Scratch}
use Rattle.csubset.specs.declared.map.Map.{Map}
use Rattle.csubset.specs.Machine.Application.{function_at, form_in}
use Rattle.csubset.specs.Form.Section.{in_section}

abbrev pub is_heap_of : ℕ → RegionRow → Bool
is_heap_of domain (Heap d) = nat_eq d domain
is_heap_of domain row = false

abbrev pub is_statics_of : ℕ → RegionRow → Bool
is_statics_of domain (Statics d) = nat_eq d domain
is_statics_of domain row = false

-- the regions that a statement names
abbrev pub region_of : Form → List ℕ
region_of (Load to width region at) = region ∷ []
region_of (Store width region at value) = region ∷ []
region_of form = []

-- function n is the copier of this portal, and this place lies in its section
pub record IsInCopy (program : CProgram) (map : Map) (portal n place : ℕ) : Type 0 where
  pub row : FunctionRow
  pub row_stands : slice_get map.functions n ≡ Some row
  pub copies : row.kind ≡ Copy portal
  pub function : CFunction
  pub function_stands : function_at program n ≡ Some function
  pub inside : in_section function place ≡ true

-- the domains that need a heap, and those that need statics, have theirs
pub record HasRegions (program : CProgram) (map : Map) (heaps statics : List ℕ) : Type 0 where
  pub one_heap : (domain : ℕ) → count_by (is_heap_of domain) map.regions ≤ 1
  pub one_statics : (domain : ℕ) → count_by (is_statics_of domain) map.regions ≤ 1
  pub has_heap : All (λ domain. 1 ≤ count_by (is_heap_of domain) map.regions) heaps
  pub has_statics : All (λ domain. 1 ≤ count_by (is_statics_of domain) map.regions) statics
  pub scratch : (n place : ℕ) (function : CFunction) (form : Form) → function_at program n ≡ Some function → form_in function place ≡ Some form
      → All (λ region. slice_get map.regions region ≡ Some Scratch → (portal : ℕ) × IsInCopy program map portal n place) (region_of form)
