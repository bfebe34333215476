use Rattle.jcode.specs.PoolOf.{pool_of}
use Rattle.jcode.proofs.Concatenated.{found, only}
use Rattle.jcode.proofs.decoding.decode.Goals as goal

pub returns-clause-found : goal.returns-clause-found
returns-clause-found c = found (λ v. v.items) (pool_of c.args.class.now) c.args.base c.args.code.now c.decoded_of.result c.decoded_of.ensures

pub returns-clause-only : goal.returns-clause-only
returns-clause-only c instructions h = only (λ v. v.items) (pool_of c.args.class.now) c.args.base c.args.code.now instructions c.decoded_of.result h c.decoded_of.ensures
