-- Worked examples of tables that are refused, at their places.
use Rattle.std.specs.Prelude.{◌≡◌, List, [], ◌∷◌}
use Rattle.kes_text.specs.declared.refusal.Kind.TheVariants as kind
use Rattle.stackmap.specs.Worked.Tables.{HasFault}

-- a table that ends before its frames do, and one that goes on behind them: told at its end
abbrev pub TablesEndWithTheirFrames : Type 0
TablesEndWithTheirFrames =
    HasFault (0 ∷ []) kind.FrameEnd 101 × HasFault (0 ∷ 2 ∷ 0 ∷ []) kind.FrameEnd 103 × HasFault (0 ∷ 1 ∷ 251 ∷ 0 ∷ []) kind.FrameEnd 104
    × HasFault (0 ∷ 1 ∷ 0 ∷ 0 ∷ []) kind.FrameEnd 104

-- tags from 128 to 246
abbrev pub ReservedTags : Type 0
ReservedTags = HasFault (0 ∷ 2 ∷ 0 ∷ 128 ∷ []) kind.FrameTag 103 × HasFault (0 ∷ 1 ∷ 246 ∷ 0 ∷ 0 ∷ []) kind.FrameTag 102

-- 65535 is the last place
abbrev pub PlacesAreBounded : Type 0
PlacesAreBounded = HasFault (0 ∷ 2 ∷ 251 ∷ 255 ∷ 255 ∷ 0 ∷ []) kind.FramePlace 105

-- a tag above 8, an index that names no class, and more locals to be chopped than there are
abbrev pub ItemsAreTypes : Type 0
ItemsAreTypes =
    HasFault (0 ∷ 1 ∷ 64 ∷ 9 ∷ []) kind.FrameItem 103 × HasFault (0 ∷ 1 ∷ 64 ∷ 7 ∷ 0 ∷ 1 ∷ []) kind.FrameItem 103 × HasFault (0 ∷ 1 ∷ 248 ∷ 0 ∷ 0 ∷ []) kind.FrameItem 102
