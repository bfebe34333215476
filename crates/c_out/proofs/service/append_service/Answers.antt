use Rattle.c_out.proofs.service.append_service.Goals as goal

pub returns-in-SetRelAlarm : goal.returns-in-SetRelAlarm
returns-in-SetRelAlarm c = rw c.in-SetRelAlarm.is c.append_alarm_start.ensures

pub returns-in-SetAbsAlarm : goal.returns-in-SetAbsAlarm
returns-in-SetAbsAlarm c = rw c.in-SetAbsAlarm.is c.append_alarm_start-in-SetAbsAlarm.ensures
