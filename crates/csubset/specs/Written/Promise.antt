-- What the written C keeps of the bytecode, for every list of moves: it shows exactly what the bytecode shows of the list's
-- image, it advances, and domains are apart.
use Rattle.std.specs.Prelude.{◌≡◌, ℕ, List}
use Rattle.osek_core.specs.declared.moves.Move.{Move}
use Rattle.osek_core.specs.Bytecode.Application.{Application}
use Rattle.osek_core.specs.Bytecode.Trace.{trace}
use Rattle.csubset.specs.Machine.Application.{CApplication}
use Rattle.csubset.specs.Machine.Trace.{c_trace}
use Rattle.csubset.specs.Image.{image}
use Rattle.csubset.specs.Written.Bound.{bound, AdvancesWithin}
use Rattle.csubset.specs.Written.Isolation.{Mark, KeepsApart}

-- by the portals' limits and the domains' heaps, each portal's server domain, and each domain's fill mark
pub record KeepsPromise (app : CApplication) (bytecode : Application) (limits heaps : List ℕ) (server : ℕ → ℕ) (mark : ℕ → Mark) : Type 0 where
  pub shows_exactly : (moves : List Move)
      → c_trace app.program app.tables app.map moves ≡ trace bytecode (image app.program app.tables app.map moves)
  pub advances : AdvancesWithin app (bound limits heaps)
  pub apart : KeepsApart app server mark
