-- The names of a configuration's objects. An object's number is its place among the lines of its kind.
use Rattle.std.specs.Prelude.{[], map}
use Rattle.kconfig.specs.declared.config.Config.{Config}
use Rattle.script.specs.declared.names.Names.{Names}

abbrev pub names_of : Config → Names
names_of c = record {
  tasks = map (λ x. x.name) c.tasks;
  resources = map (λ x. x.name) c.resources;
  events = map (λ x. x.name) c.events;
  counters = map (λ x. x.name) c.counters;
  alarms = map (λ x. x.name) c.alarms;
  methods = [];
  devices = c.devices.size;
}
