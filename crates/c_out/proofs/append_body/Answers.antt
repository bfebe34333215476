use Rattle.std.proofs.Common.{◌++◌, flat_map, codes, decimal}
use Rattle.std.specs.List.{enumerate_from}
use Rattle.csubset.specs.Text.Line.{line}
use Rattle.csubset.specs.Text.Program.{task_declaration, resource_declaration, event_declaration, alarm_declaration, region_line, function_declaration, function_text, start_line, task_line}
use Rattle.c_out.proofs.Lists.{body_parts}
use Rattle.c_out.proofs.append_body.Goals as goal

pub returns : goal.returns
returns c =
    rw (
      c.in_ok-append_task_lines.ensures,
      c.as_slice-9.ensures,
      c.in_ok-append_startup.ensures,
      c.as_slice-8.ensures,
      c.in_ok-append_definitions.ensures,
      c.as_slice-7.ensures,
      c.in_ok-append_declarations.ensures,
      c.as_slice-6.ensures,
      c.in_ok-append_regions.ensures,
      c.as_slice-5.ensures,
      c.in_ok-append_objects-4.ensures,
      c.as_slice-4.ensures,
      c.in_ok-append_objects-3.ensures,
      c.as_slice-3.ensures,
      c.in_ok-append_objects-2.ensures,
      c.as_slice-2.ensures,
      c.in_ok-append_objects.ensures,
      c.as_slice.ensures,
      c.in_ok-append_device.ensures,
    )
    (body_parts c.args.out.now.items
    (line (codes "#define KDEV " ++ decimal c.args.program.now.device_base ++ codes "ul"))
    (flat_map task_declaration c.args.program.now.tasks)
    (flat_map resource_declaration c.args.program.now.resources)
    (flat_map event_declaration c.args.program.now.events)
    (flat_map alarm_declaration c.args.program.now.alarms)
    (flat_map (λ r. region_line r.0 r.1) (enumerate_from 0 c.args.program.now.regions))
    (flat_map (λ f. function_declaration f.0 f.1) (enumerate_from 0 c.args.program.now.functions))
    (flat_map (λ f. function_text f.0 f.1) (enumerate_from 0 c.args.program.now.functions))
    (line (codes "void StartupHook(void) {"))
    (flat_map start_line c.args.program.now.starts)
    (line (codes "}"))
    (flat_map task_line c.args.program.now.task_lines))
