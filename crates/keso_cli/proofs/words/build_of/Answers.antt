use Rattle.std.proofs.Common.{string_bytes, map}
use Rattle.keso_cli.proofs.WordLemmas.{request_is, found, not_found}
use Rattle.keso_cli.proofs.words.build_of.Goals as goal

pub returns-then-is_build : goal.returns-then-is_build
returns-then-is_build c =
    let asked = request_is string_bytes c.args.words.now c.split_at.result.0.now c.split_at.result.1.now c.saturating_sub.result c.build-item.result c.config-item.result c.option-item.result c.base-item.result
    c.in-len2-up.len_at_least c.build-item.is c.config-item.is c.saturating_sub.ensures c.split_at.ensures.front c.split_at.ensures.back c.in-len2.len_at_least c.in-len2.len_below c.option-item.is c.base-item.is in
    found _ _ _ _ _ _ _ _ (map string_bytes c.split_at.result.0.now) c.as_str.ensures.value c.as_str-config.ensures.value c.as_str-2.ensures.value c.as_str-base.ensures.value
    _ c.is_build.result asked c.is_build.ensures c.if-is_build.true

pub returns-else-is_build : goal.returns-else-is_build
returns-else-is_build c =
    let asked = request_is string_bytes c.args.words.now c.split_at.result.0.now c.split_at.result.1.now c.saturating_sub.result c.build-item.result c.config-item.result c.option-item.result c.base-item.result
    c.in-len2-up.len_at_least c.build-item.is c.config-item.is c.saturating_sub.ensures c.split_at.ensures.front c.split_at.ensures.back c.in-len2.len_at_least c.in-len2.len_below c.option-item.is c.base-item.is in
    not_found _ _ _ _ _ _ _ _ (map string_bytes c.split_at.result.0.now) c.as_str.ensures.value c.as_str-config.ensures.value c.as_str-2.ensures.value c.as_str-base.ensures.value
    _ c.is_build.result asked c.is_build.ensures c.if-is_build.false
