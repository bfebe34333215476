use Rattle.std.proofs.Common.{refl}
use Rattle.std.specs.Fmt.{digits}
use Rattle.oil_out.specs.OilText.{attribute, header, event_text, resource_text, counter_text, task_text, alarm_text}
use Rattle.oil_in.specs.Pieces.{behind, name_at, number_at}
use Rattle.oil_in.specs.Forms.{name_in, number_in, choice, set_line, started_line}
use Rattle.oil_in.specs.Scan.{number_between, many}
use Rattle.oil_in.specs.Objects.{object_end, mask_at, event_at, property_at, resource_at, max_at, base_at, min_at, counter_rule_at, counter_at}
use Rattle.oil_in.specs.Tasks.{place_at, places_at, used_at, waited_at, priority_at, schedule_at, activations_at, auto_at, task_body_at, task_at}
use Rattle.oil_in.specs.Alarms.{counter_place_at, action_at, start_at, alarm_body_at, alarm_at}
use Rattle.oil_in.specs.Reading.{fixed_lines, closed_at, objects_at, oil_read}
use Rattle.oil_in.proofs.worked.objects_are_read.Goals as goal

pub returns : goal.returns
unfolding behind name_at number_at name_in number_in choice set_line started_line number_between many object_end mask_at event_at property_at resource_at max_at base_at min_at counter_rule_at counter_at place_at places_at used_at waited_at priority_at schedule_at activations_at auto_at task_body_at task_at counter_place_at action_at start_at alarm_body_at alarm_at fixed_lines closed_at objects_at oil_read attribute header event_text resource_text counter_text task_text alarm_text digits
returns c = refl
